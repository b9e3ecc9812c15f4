-- A move keeps what holds of the processors, at each cycle above its own.
use Rattle.std.proofs.Common.{◌≡◌, ℕ, zero, suc, ◌+◌, ◌<◌, ◌≤◌, ◌/◌, ◌%◌, ◌==◌, Bool, true, false, cond, if◌then◌else◌, is_some, List, Option, Some, None, Result, Ok, Err, refl, sym, ◌∙◌, subst, arith, le_refl}
use Rattle.std.specs.Prelude.{◌-◌, ◌^◌}
use Rattle.std.proofs.lemmas.Bool.{true≢false}
use Rattle.md_fields.specs.Places.{IsBytes}
use Rattle.md_pads.specs.Recording.{Recorded}
use Rattle.md_word.specs.Map.{area_of}
use Rattle.md_word.specs.declared.area.Area.{Area}
use Rattle.md_word.specs.declared.area.Area.TheVariants.{Z80Space, InputOutput, BusRequest, Z80Reset, VideoPorts}
use Rattle.md_word.specs.declared.event.Entry.{Entry}
use Rattle.md_word.specs.declared.key.Key.{Key}
use Rattle.md_word.specs.declared.main_bus.Request68.{Request68}
use Rattle.md_word.specs.declared.main_bus.Request68.TheVariants.{Read8, Read16, Write8, Write16, Ack, Word}
use Rattle.md_word.specs.declared.pins.Pins80.{Pins80}
use Rattle.md_word.specs.declared.sub_bus.Request80.{Request80}
use Rattle.rom_header.specs.Cartridge.{IsImage}
use Rattle.m68k_chip.proofs.Laws as laws68
use Rattle.m68k_chip.proofs.Recent as recent68
use Rattle.m68k_chip.proofs.RuleLaws.{recent_from}
use Rattle.m68k_chip.specs.Events.{request_of}
use Rattle.m68k_chip.specs.Validity.{Chip68Value}
use Rattle.m68k_chip.specs.Spelling as spelling68
use Rattle.m68k_chip.specs.Rules as rules68
use Rattle.m68k_chip.specs.States.{State68, next_of}
use Rattle.z80_exec.specs.Sample.Samples.{Ended}
use Rattle.z80_parcel.specs.Parcels.{Store}
use Rattle.z80_parcel.specs.Requests.{AnswerValue80}
use Rattle.z80_chip.proofs.Laws as laws80
use Rattle.z80_chip.proofs.Recent as recent80
use Rattle.z80_chip.proofs.RuleLaws.{rules_from}
use Rattle.z80_chip.specs.Cases.{case_of, is_reset, seen}
use Rattle.z80_chip.specs.Events as events80
use Rattle.z80_chip.specs.Events.{asked_of, begun, handed}
use Rattle.z80_chip.specs.Rules as rules80
use Rattle.z80_chip.specs.Spelling as spelling80
use Rattle.z80_chip.specs.States as states80
use Rattle.z80_chip.specs.States.{State80, next_of as sub_next_of}
use Rattle.z80_chip.specs.declared.case.Case.{Case}
use Rattle.z80_chip.specs.declared.case.Case.TheVariants as cases
use Rattle.z80_chip.specs.declared.stage.Stage.{Stage}
use Rattle.z80_chip.specs.declared.stage.Stage.TheVariants.{Sample, Access, Yield, Take}
use Rattle.bus_shared.proofs.Keeps as keeps
use Rattle.bus_shared.proofs.Touches.{left_by_line, left_by_sub}
use Rattle.bus_shared.specs.Accesses.{level_of, main_answer, main_board, psg_board, sub_pins}
use Rattle.bus_shared.specs.Areas.{byte_written_at, byte_written_in, read_at, read_in, word_written_at, word_written_in}
use Rattle.bus_shared.specs.Board.{Board}
use Rattle.bus_shared.specs.Fm.{fm_board, fm_read, is_fm, with_fm, with_fm_reset}
use Rattle.bus_shared.specs.Lines.{counted}
use Rattle.bus_shared.specs.Registers.{register_at, register_written}
use Rattle.bus_shared.specs.Video.{level_known, port_at, video_byte_written, video_word_written}
use Rattle.bus_shared.specs.Z80Space.{granted, is_psg80, space_read, space_written, with_psg, z80_address}
use Rattle.bus_shared.specs.declared.port.VideoPort.{VideoPort}
use Rattle.bus_shared.specs.declared.port.VideoPort.TheVariants.{Data, Control, Counter, Sound, Unused as NoPort}
use Rattle.bus_shared.specs.declared.register.Register.{Register}
use Rattle.bus_shared.specs.declared.register.Register.TheVariants.{Version, Data1, Data2, DataExpansion, Control1, Control2, Unused}
use Rattle.md_chips.specs.Console.{AllBelow, Console, IsRunTo, fm_moved, key_in, line_moved, main_moved, moved, mover, power_on, psg_moved, ran, sub_accessed, sub_moved}
use Rattle.md_chips.specs.Laws.{answer-fits, handed-board, main-low, sub-low, reported-fits}
use Rattle.md_chips.specs.Media.{Media}
use Rattle.md_chips.specs.Owners.{HasOneOwner}
use Rattle.md_chips.specs.Movers.{mover-lt}
use Rattle.md_chips.proofs.Moves.{five-each}
use Rattle.md_chips.proofs.Owners.{Owns, is_take, move-owns}
use Rattle.machine_laws.specs.Processors.{HasProcessors, IsValid}

-- ---- the count of resets

either : (b : Bool) (one other : Board) (n : ℕ) → n ≤ one.resets → n ≤ other.resets → n ≤ (if b then one else other).resets
either true one other n first second = first
either false one other n first second = second

counted_by : (b : Bool) (n : ℕ) → n ≤ (if b then n else n + 1)
counted_by true n = omega arith
counted_by false n = omega arith

register-resets : (board : Board) (cycle : ℕ) (register : Register) (value : ℕ) → board.resets ≤ (register_written board cycle register value).resets
unfolding register_written
register-resets board cycle Version value = le_refl board.resets
register-resets board cycle Data1 value = le_refl board.resets
register-resets board cycle Data2 value = le_refl board.resets
register-resets board cycle DataExpansion value = le_refl board.resets
register-resets board cycle Control1 value = le_refl board.resets
register-resets board cycle Control2 value = le_refl board.resets
register-resets board cycle Unused value = le_refl board.resets

space-resets : (store : Option Store) (board : Board) (key : Key) (at value : ℕ) → board.resets ≤ (space_written store board key at value).resets
space-resets None board key at value = le_refl board.resets
space-resets (Some store) board key at value =
    either (is_psg80 at) (with_psg board key value) _ board.resets (le_refl board.resets)
    (either (is_fm at) (with_fm board key at value) _ board.resets (le_refl board.resets) (le_refl board.resets))

space_read-resets : (store : Option Store) (board : Board) (cycle at : ℕ) → board.resets ≤ (space_read store board cycle at).resets
space_read-resets None board cycle at = le_refl board.resets
space_read-resets (Some store) board cycle at = either (is_fm at) (fm_read board cycle) board board.resets (le_refl board.resets) (le_refl board.resets)

read-resets : (area : Option Area) (board : Board) (key : Key) (address : ℕ) → board.resets ≤ (read_at area board key address).resets
unfolding read_in
read-resets None board key address = le_refl board.resets
read-resets (Some Z80Space) board key address = space_read-resets (granted board.request board.store) board key.cycle (z80_address address)
read-resets (Some InputOutput) board key address = le_refl board.resets
read-resets (Some BusRequest) board key address = le_refl board.resets
read-resets (Some Z80Reset) board key address = le_refl board.resets
read-resets (Some VideoPorts) board key address = le_refl board.resets

video-byte-resets : (port : VideoPort) (board : Board) (key : Key) (address value : ℕ) → board.resets ≤ (video_byte_written port board key address value).resets
unfolding video_byte_written
video-byte-resets Data board key address value = le_refl board.resets
video-byte-resets Control board key address value = le_refl board.resets
video-byte-resets Counter board key address value = le_refl board.resets
video-byte-resets Sound board key address value = either (address % 2 == 1) (with_psg board key value) board board.resets (le_refl board.resets) (le_refl board.resets)
video-byte-resets NoPort board key address value = le_refl board.resets

video-word-resets : (port : VideoPort) (board : Board) (key : Key) (value : ℕ) → board.resets ≤ (video_word_written port board key value).resets
unfolding video_word_written
video-word-resets Data board key value = le_refl board.resets
video-word-resets Control board key value = le_refl board.resets
video-word-resets Counter board key value = le_refl board.resets
video-word-resets Sound board key value = le_refl board.resets
video-word-resets NoPort board key value = le_refl board.resets

reset-resets : (b : Bool) (board : Board) (key : Key)
    → board.resets ≤ (if b then record (with_fm_reset board key) { reset = true; resets = counted board.resets } else record board { reset = false }).resets
reset-resets true board key = counted_by (board.resets == 2 ^ 64 - 1) board.resets
reset-resets false board key = le_refl board.resets

byte-resets : (area : Option Area) (board : Board) (key : Key) (address value : ℕ) → board.resets ≤ (byte_written_at area board key address value).resets
unfolding byte_written_in
byte-resets None board key address value = le_refl board.resets
byte-resets (Some Z80Space) board key address value = space-resets (granted board.request board.store) board key (z80_address address) value
byte-resets (Some InputOutput) board key address value = register-resets board key.cycle (register_at address) (value % 0x100)
byte-resets (Some BusRequest) board key address value = either (address % 2 == 0) _ board board.resets (le_refl board.resets) (le_refl board.resets)
byte-resets (Some Z80Reset) board key address value = either (address % 2 == 0) _ board board.resets (reset-resets (value % 2 == 0) board key) (le_refl board.resets)
byte-resets (Some VideoPorts) board key address value = video-byte-resets (port_at address) board key address value

word-resets : (area : Option Area) (board : Board) (key : Key) (address value : ℕ) → board.resets ≤ (word_written_at area board key address value).resets
unfolding word_written_in
word-resets None board key address value = le_refl board.resets
word-resets (Some Z80Space) board key address value = space-resets (granted board.request board.store) board key (z80_address address) (value / 0x100)
word-resets (Some InputOutput) board key address value = register-resets board key.cycle (register_at address) (value % 0x100)
word-resets (Some BusRequest) board key address value = le_refl board.resets
word-resets (Some Z80Reset) board key address value = reset-resets (value / 0x100 % 2 == 0) board key
word-resets (Some VideoPorts) board key address value = video-word-resets (port_at address) board key value

-- an access of the 68000 takes no reset back
main-resets : (board : Board) (key : Key) (request : Request68) → board.resets ≤ (main_board board key request).resets
unfolding main_board
main-resets board key (Read8 address) = read-resets (area_of address) board key address
main-resets board key (Read16 address) = read-resets (area_of address) board key address
main-resets board key (Write8 address value) = byte-resets (area_of address) board key address value
main-resets board key (Write16 address value) = word-resets (area_of address) board key address value
main-resets board key (Ack level) = le_refl board.resets
main-resets board key (Word value) = le_refl board.resets

-- ---- the Z80 sees a reset that there was

seen_by : (b : Bool) (one other : State80) (n : ℕ) → one.resets ≡ n → other.resets ≤ n → (if b then one else other).resets ≤ n
seen_by true one other n first second = omega (arith, first)
seen_by false one other n first second = second

seen_sees : (state : State80) (pins : Pins80) → state.resets ≤ pins.resets → (seen state pins).resets ≤ pins.resets
unfolding seen
seen_sees state pins few = seen_by (is_reset state pins) _ state pins.resets refl few

came_same : (state : State80) (cause : ℕ) (r : Result Ended Request80) → (events80.came_to state cause r).resets ≡ state.resets
came_same state cause (Ok ended) = refl
came_same state cause (Err request) = refl

went_same : (cart : List ℕ) (state : State80) (cause : ℕ) → (events80.went_on cart state cause).resets ≡ state.resets
unfolding events80.went_on
went_same cart state cause = came_same state cause (events80.carried_out cart state cause)

begun_same : (case : Case) (cart : List ℕ) (state : State80) → (events80.begun_as case cart state).resets ≡ state.resets
begun_same cases.Yield cart state = refl
begun_same cases.Take cart state = refl
begun_same cases.Suspended cart state = refl
begun_same cases.InReset cart state = refl
begun_same cases.Interrupt cart state = went_same cart state 1
begun_same cases.Halted cart state = refl
begun_same cases.Instruction cart state = went_same cart state 0

begun_sees : (cart : List ℕ) (state : State80) (pins : Pins80) → state.resets ≤ pins.resets → (begun cart state pins).resets ≤ pins.resets
unfolding begun
begun_sees cart state pins few =
    let same = begun_same (case_of (seen state pins) pins) cart (seen state pins) in
    let here = seen_sees state pins few in
    omega (arith, same, here)

answered_same : (stage : Stage) (cart : List ℕ) (state : State80) (reported : AnswerValue80) → (events80.answered_at stage cart state reported).resets ≡ state.resets
answered_same Sample cart state reported = refl
answered_same Access cart state reported = went_same cart _ state.cause
answered_same Yield cart state reported = refl
answered_same Take cart state reported = refl

-- ---- the moves, chip by chip

-- all but the owner of the Z80's RAM
record Rest (at : ℕ) (m : Console) : Type 0 where
  valid : IsValid m
  main : rules68.HasRules at m.main
  sub : rules80.HasRules m.sub.cart at m.sub.state
  one_cart : m.sub.cart ≡ m.cart
  resets : m.sub.state.resets ≤ m.shared.resets

main_cycle : (state : State68) (at : ℕ) → (next_of state).key.cycle < at → state.next < at
unfolding next_of
main_cycle state at below = below

sub_cycle : (state : State80) (at : ℕ) → (sub_next_of state).key.cycle < at → state.next < at
unfolding sub_next_of
sub_cycle state at below = below

handed_kind : (state : State80) → (sub_next_of state).sample ≡ false → (sub_next_of (handed state)).sample ≡ false
unfolding sub_next_of handed
handed_kind state kind = kind

answered_sees : (cart : List ℕ) (state : State80) (reported : AnswerValue80) → (events80.answered cart (handed state) reported).resets ≡ state.resets
unfolding events80.answered handed
answered_sees cart state reported = answered_same state.stage cart (record state { store = events80.kept_at state.stage state.store }) reported

fm_resets : (board : Board) (cycle : ℕ) → (fm_board board cycle).resets ≡ board.resets
unfolding fm_board
fm_resets board cycle = refl

psg_resets : (board : Board) (cycle : ℕ) → (psg_board board cycle).resets ≡ board.resets
unfolding psg_board
psg_resets board cycle = refl

-- a choice between two machines by a test
pick : (P : Console → Type 0) (b : Bool) (x y : Console) → (b ≡ true → P x) → (b ≡ false → P y) → P (cond b x y)
pick P true x y first second = first refl
pick P false x y first second = second refl

main_rest : (at : ℕ) (z : Console) → (next_of z.main).key.cycle < at → Rest at z → Rest at (main_moved z)
unfolding main_moved
main_rest at z below rest =
    let valid = rest.valid in
    let v : Chip68Value = record { cart = z.cart; state = z.main } in
    let key = (next_of z.main).key in
    let request = request_of z.cart z.main in
    pick (Rest at) (next_of z.main).sample _ _
    (λ kind. record {
      valid = record { main = laws68.begun-ok v (level_of z.shared) (level_known z.shared.vdp) valid.main kind; sub = valid.sub; shared = valid.shared; cart = valid.cart };
      main = recent68.begun_rules at v (level_of z.shared) (level_known z.shared.vdp) valid.main valid.cart kind (main_cycle z.main at below) rest.main;
      sub = rest.sub;
      one_cart = rest.one_cart;
      resets = rest.resets;
    })
    (λ kind. (let fits = answer-fits z.shared key request valid.shared in
    record {
      valid = record {
        main = laws68.answered-ok v (main_answer z.shared key request) valid.main kind fits;
        sub = valid.sub;
        shared = keeps.main-ok z.shared key request (main-low z.main) valid.shared;
        cart = valid.cart;
      };
      main = recent68.answered_rules at v (main_answer z.shared key request) valid.main valid.cart kind fits (main_cycle z.main at below) rest.main;
      sub = rest.sub;
      one_cart = rest.one_cart;
      resets = (let more = main-resets z.shared key request in let few = rest.resets in omega (arith, more, few));
    }))

sub_rest : (at : ℕ) (z : Console) → (sub_next_of z.sub.state).key.cycle < at → Rest at z → Rest at (sub_moved z)
unfolding sub_moved
sub_rest at z below rest =
    let valid = rest.valid in
    let key = (sub_next_of z.sub.state).key in
    let asks = asked_of z.sub.cart z.sub.state in
    pick (Rest at) (sub_next_of z.sub.state).sample _ _
    (λ kind. record {
      valid = record { main = valid.main; sub = laws80.begun-ok z.sub (sub_pins z.shared) valid.sub kind; shared = valid.shared; cart = valid.cart };
      main = rest.main;
      sub = recent80.begun_rules at z.sub (sub_pins z.shared) valid.sub kind (sub_cycle z.sub.state at below);
      one_cart = rest.one_cart;
      resets = begun_sees z.sub.cart z.sub.state (sub_pins z.shared) rest.resets;
    })
    (λ kind. (let fits = reported-fits (record { chip = z.sub; answer = None }) z.shared valid.sub valid.shared in
    record {
      valid = record {
        main = valid.main;
        sub = laws80.answered-ok (laws80.of z.sub.cart (handed z.sub.state)) (sub_accessed z).answer (laws80.handed-ok z.sub valid.sub) (handed_kind z.sub.state kind) fits;
        shared = keeps.sub-ok z.shared key asks (sub-low z.sub.state) (handed-board (record { chip = z.sub; answer = None }) valid.sub) valid.shared;
        cart = valid.cart;
      };
      main = rest.main;
      sub = recent80.answered_rules at z.sub (sub_accessed z).answer valid.sub kind fits (sub_cycle z.sub.state at below) rest.sub;
      one_cart = rest.one_cart;
      resets = (let leaves = (left_by_sub z.shared key asks).resets in let same = answered_sees z.sub.cart z.sub.state (sub_accessed z).answer in let few = rest.resets in omega (arith, leaves, same, few));
    }))

line_rest : (at : ℕ) (z : Console) → Rest at z → Rest at (line_moved z)
unfolding line_moved
line_rest at z rest =
    let valid = rest.valid in
    record {
      valid = record { main = valid.main; sub = valid.sub; shared = keeps.line-ok z.shared z.line z.note valid.shared; cart = valid.cart };
      main = rest.main;
      sub = rest.sub;
      one_cart = rest.one_cart;
      resets = (let leaves = (left_by_line z.shared z.line z.note).resets in let few = rest.resets in omega (arith, leaves, few));
    }

fm_rest : (at : ℕ) (z : Console) → Rest at z → Rest at (fm_moved z)
unfolding fm_moved
fm_rest at z rest =
    let valid = rest.valid in
    record {
      valid = record { main = valid.main; sub = valid.sub; shared = keeps.fm_board-ok z.shared z.fm_cycle valid.shared; cart = valid.cart };
      main = rest.main;
      sub = rest.sub;
      one_cart = rest.one_cart;
      resets = subst (λ (n : ℕ). z.sub.state.resets ≤ n) (sym (fm_resets z.shared z.fm_cycle)) rest.resets;
    }

psg_rest : (at : ℕ) (z : Console) → Rest at z → Rest at (psg_moved z)
unfolding psg_moved
psg_rest at z rest =
    let valid = rest.valid in
    record {
      valid = record { main = valid.main; sub = valid.sub; shared = keeps.psg_board-ok z.shared z.psg_cycle valid.shared; cart = valid.cart };
      main = rest.main;
      sub = rest.sub;
      one_cart = rest.one_cart;
      resets = subst (λ (n : ℕ). z.sub.state.resets ≤ n) (sym (psg_resets z.shared z.psg_cycle)) rest.resets;
    }

move_rest : (at : ℕ) (z : Console) → Rest at z → (i : ℕ) → i < 5 → (key_in z i).cycle < at → Rest at (moved z i)
unfolding moved key_in
move_rest at z rest =
    five-each (λ i. (key_in z i).cycle < at → Rest at (moved z i))
    (λ below. main_rest at z below rest)
    (λ below. sub_rest at z below rest)
    (λ below. line_rest at z rest)
    (λ below. fm_rest at z rest)
    (λ below. psg_rest at z rest)

-- ---- the owner of the Z80's RAM

taker_has_none : (stage : Stage) (state : State80) → rules80.FitsHolder stage state → is_take stage ≡ true → is_some state.store ≡ false
taker_has_none Sample state holds take = absurd (true≢false (sym take))
taker_has_none Access state holds take = absurd (true≢false (sym take))
taker_has_none Yield state holds take = absurd (true≢false (sym take))
taker_has_none Take state holds take = holds

owner_of : (at : ℕ) (z : Console) → HasProcessors at z → Owns z.sub.state z.shared
owner_of at z has = record { one = has.one_owner; taking = taker_has_none z.sub.state.stage z.sub.state has.sub.holder }

move_keeps : (at : ℕ) (z : Console) → HasProcessors at z → (i : ℕ) → i < 5 → (key_in z i).cycle < at → HasProcessors at (moved z i)
move_keeps at z has i known below =
    let rest : Rest at (moved z i) =
    move_rest at z (record { valid = has.valid; main = has.main; sub = has.sub; one_cart = has.one_cart; resets = has.resets }) i known below in
    record {
      valid = rest.valid;
      main = rest.main;
      sub = rest.sub;
      one_cart = rest.one_cart;
      one_owner = (move-owns z has.valid.sub (owner_of at z has) i known).one;
      resets = rest.resets;
    }

-- ---- a run

ran_keeps : (at : ℕ) (m : Console) (n : ℕ) → HasProcessors at m → AllBelow m at n → HasProcessors at (ran m n)
unfolding ran
ran_keeps at m zero has below = has
ran_keeps at m (suc n) has below =
    move_keeps at (ran m n) (ran_keeps at m n has (λ k less. below k (omega (arith, less)))) (mover (ran m n)) (mover-lt (ran m n)) (below n (omega arith))

-- what holds at a cycle holds at each later one
later : (at end : ℕ) (m : Console) → at ≤ end → HasProcessors at m → HasProcessors end m
later at end m more has = record {
  valid = has.valid;
  main = recent68.later_rules at end m.main more has.main;
  sub = recent80.later_rules m.sub.cart at end m.sub.state more has.sub;
  one_cart = has.one_cart;
  one_owner = has.one_owner;
  resets = has.resets;
}

pub run_keeps : (m z : Console) (at end : ℕ) (entries : List Entry) (output : Media) → HasProcessors at m → at ≤ end → IsRunTo m end z entries output → HasProcessors end z
run_keeps m z at end entries output has more run = subst (HasProcessors end) (sym run.console) (ran_keeps end m run.moves (later at end m more has) run.below)

pub power_on_has : (cart : List ℕ) (recording : Recorded) (pal : Bool) (at : ℕ) → IsImage cart → IsBytes cart → HasProcessors at (power_on cart recording pal)
unfolding states80.power_on
power_on_has cart recording pal at image bytes = record {
  valid = record { main = laws68.power_on-ok cart image; sub = laws80.power_on-ok cart image; shared = keeps.power_on-ok recording pal; cart = bytes };
  main = recent68.power_on_rules at cart;
  sub = recent80.power_on_rules at cart;
  one_cart = refl;
  one_owner = refl;
  resets = omega arith;
}

-- ---- what is saved

pub saved_has : (cart : List ℕ) (at : ℕ) (kept held : List ℕ) (m : Console) → IsValid m → IsBytes m.main.ram → m.cart ≡ cart → m.sub.cart ≡ cart → spelling68.Spells cart at kept m.main
    → spelling80.Spells cart at held m.sub.state → HasOneOwner m → m.sub.state.resets ≤ m.shared.resets → HasProcessors at m
saved_has cart at kept held m valid ram one other main sub owner resets = record {
  valid = valid;
  main = record { ram = ram; recent = recent_from cart at kept m.main main };
  sub = subst (λ (l : List ℕ). rules80.HasRules l at m.sub.state) (sym other) (rules_from cart at held m.sub.state sub);
  one_cart = other ∙ sym one;
  one_owner = owner;
  resets = resets;
}
