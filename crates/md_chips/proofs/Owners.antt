-- The Z80's RAM and bank register have one owner at every moment of a run.
use Rattle.std.proofs.Common.{◌≡◌, ℕ, zero, suc, ◌/◌, ◌%◌, ◌==◌, ◌<◌, cond, Bool, true, false, not, if◌then◌else◌, List, Option, Some, None, Result, Ok, Err, refl, sym, ap, ◌∙◌, subst, arith, lit<}
use Rattle.std.specs.Prelude.{is_some, option_map}
use Rattle.std.proofs.lemmas.Bool.{true≢false}
use Rattle.md_pads.specs.Recording.{Recorded}
use Rattle.md_word.specs.Region.{finished_at, frame_cycles}
use Rattle.md_word.specs.Map.{area_of}
use Rattle.md_word.specs.declared.area.Area.{Area}
use Rattle.md_word.specs.declared.area.Area.TheVariants.{Z80Space, InputOutput, BusRequest, Z80Reset, VideoPorts}
use Rattle.md_word.specs.declared.key.Key.{Key}
use Rattle.md_word.specs.declared.main_bus.Request68.{Request68}
use Rattle.md_word.specs.declared.main_bus.Request68.TheVariants.{Read8, Read16, Write8, Write16, Ack, Word}
use Rattle.md_word.specs.declared.pins.Pins80.{Pins80}
use Rattle.md_word.specs.declared.sub_bus.Request80.{Request80}
use Rattle.md_word.specs.declared.sub_bus.Request80.TheVariants as requests80
use Rattle.chip_core.specs.Machines.{IsValid, Machine, run}
use Rattle.m68k_chip.specs.Events.{request_of}
use Rattle.m68k_chip.specs.States.{next_of}
use Rattle.vdp_planes.specs.declared.view.SpriteNote.{SpriteNote}
use Rattle.bus_shared.specs.Accesses.{line_board, main_board, pads_board, psg_board, sub_access, sub_pins, taken_back, video_started, yielded}
use Rattle.bus_shared.specs.Areas.{byte_written_at, byte_written_in, read_at, read_in, word_written_at, word_written_in}
use Rattle.bus_shared.specs.Board.{Board, IsBoard}
use Rattle.bus_shared.specs.Fm.{fm_board, fm_read, is_fm, with_fm, with_fm_reset}
use Rattle.bus_shared.specs.Lines.{counted}
use Rattle.bus_shared.specs.Registers.{register_at, register_written}
use Rattle.bus_shared.specs.Video.{port_at, video_byte_written, video_word_written}
use Rattle.bus_shared.specs.Z80Space.{granted, is_psg80, space_read, space_written, with_psg, z80_address}
use Rattle.bus_shared.specs.declared.port.VideoPort.{VideoPort}
use Rattle.bus_shared.specs.declared.port.VideoPort.TheVariants.{Data, Control, Counter, Sound, Unused as NoPort}
use Rattle.bus_shared.specs.declared.register.Register.{Register}
use Rattle.bus_shared.specs.declared.register.Register.TheVariants.{Version, Data1, Data2, DataExpansion, Control1, Control2, Unused}
use Rattle.z80_chip.specs.Cases.{bus_case, case_of, is_interrupted, is_reset, running_case, seen}
use Rattle.z80_chip.specs.Events.{answered, answered_at, asked_at, asked_in, asked_of, begun, begun_as, came_to, carried_out, handed, handing, kept_at, went_on}
use Rattle.z80_chip.specs.Validity.{Chip80Value, IsAsking, IsAt, IsChip80}
use Rattle.z80_chip.specs.States as states80
use Rattle.z80_chip.specs.States.{State80, is_sample, next_of as sub_next_of}
use Rattle.z80_chip.specs.declared.case.Case.{Case}
use Rattle.z80_chip.specs.declared.case.Case.TheVariants as cases
use Rattle.z80_chip.specs.declared.stage.Stage.{Stage}
use Rattle.z80_chip.specs.declared.stage.Stage.TheVariants.{Sample, Access, Yield, Take}
use Rattle.z80_exec.proofs.Bounds.Samples as bounds80
use Rattle.z80_exec.specs.Sample.Bounds.{IsAccess}
use Rattle.z80_exec.specs.Sample.Samples.{Ended}
use Rattle.z80_parcel.specs.Parcels.{Store, written}
use Rattle.z80_parcel.specs.Requests.{RequestValue80, TakeBack, AnswerValue80, store_in}
use Rattle.md_chips.specs.Console.{Console, fm_moved, line_moved, main_moved, moved, mover, power_on, psg_moved, ran, sub_accessed, sub_moved}
use Rattle.md_chips.specs.Movers.{mover-lt}
use Rattle.md_chips.specs.Owners.{HasOneOwner}
use Rattle.md_chips.specs.Refinement.{console_of, sub_of}
use Rattle.md_chips.specs.Rules.{IsChip, five}
use Rattle.md_chips.specs.declared.chips.Chip.{Chip}
use Rattle.md_chips.specs.declared.chips.Chip.TheVariants.{Sub}
use Rattle.md_chips.proofs.Lifts.{Movers, ValidTo, ran-same}
use Rattle.md_chips.proofs.Moves.{five-each, kind1}

-- what the bus has stays with it, whatever the 68000 does
has-same : (b : Bool) (one other : Board) (x : Bool) → is_some one.store ≡ x → is_some other.store ≡ x → is_some (if b then one else other).store ≡ x
has-same true one other x first second = first
has-same false one other x first second = second

register-has : (board : Board) (cycle : ℕ) (register : Register) (value : ℕ) → is_some (register_written board cycle register value).store ≡ is_some board.store
unfolding register_written
register-has board cycle Version value = refl
register-has board cycle Data1 value = refl
register-has board cycle Data2 value = refl
register-has board cycle DataExpansion value = refl
register-has board cycle Control1 value = refl
register-has board cycle Control2 value = refl
register-has board cycle Unused value = refl

written-has : (b c : Bool) (board : Board) (key : Key) (at value : ℕ) (store : Store) → true ≡ is_some board.store
    → is_some (if b then with_psg board key value else (if c then with_fm board key at value else record board { store = Some store })).store ≡ is_some board.store
written-has true c board key at value store has = refl
written-has false true board key at value store has = refl
written-has false false board key at value store has = has

space-has : (request : Bool) (store : Option Store) (board : Board) (key : Key) (at value : ℕ) → store ≡ board.store
    → is_some (space_written (granted request store) board key at value).store ≡ is_some board.store
space-has true None board key at value is = refl
space-has true (Some store) board key at value is = written-has (is_psg80 at) (is_fm at) board key at value _ (ap is_some is)
space-has false store board key at value is = refl

space_read-has : (store : Option Store) (board : Board) (cycle at : ℕ) → is_some (space_read store board cycle at).store ≡ is_some board.store
space_read-has None board cycle at = refl
space_read-has (Some store) board cycle at = has-same (is_fm at) (fm_read board cycle) board (is_some board.store) refl refl

read-has : (area : Option Area) (board : Board) (key : Key) (address : ℕ) → is_some (read_at area board key address).store ≡ is_some board.store
unfolding read_in
read-has None board key address = refl
read-has (Some Z80Space) board key address = space_read-has (granted board.request board.store) board key.cycle (z80_address address)
read-has (Some InputOutput) board key address = refl
read-has (Some BusRequest) board key address = refl
read-has (Some Z80Reset) board key address = refl
read-has (Some VideoPorts) board key address = refl

video-byte-has : (port : VideoPort) (board : Board) (key : Key) (address value : ℕ) → is_some (video_byte_written port board key address value).store ≡ is_some board.store
unfolding video_byte_written
video-byte-has Data board key address value = refl
video-byte-has Control board key address value = refl
video-byte-has Counter board key address value = refl
video-byte-has Sound board key address value = has-same (address % 2 == 1) (with_psg board key value) board (is_some board.store) refl refl
video-byte-has NoPort board key address value = refl

video-word-has : (port : VideoPort) (board : Board) (key : Key) (value : ℕ) → is_some (video_word_written port board key value).store ≡ is_some board.store
unfolding video_word_written
video-word-has Data board key value = refl
video-word-has Control board key value = refl
video-word-has Counter board key value = refl
video-word-has Sound board key value = refl
video-word-has NoPort board key value = refl

reset-has : (b : Bool) (board : Board) (key : Key)
    → is_some (if b then record (with_fm_reset board key) { reset = true; resets = counted board.resets } else record board { reset = false }).store ≡ is_some board.store
reset-has true board key = refl
reset-has false board key = refl

byte-has : (area : Option Area) (board : Board) (key : Key) (address value : ℕ) → is_some (byte_written_at area board key address value).store ≡ is_some board.store
unfolding byte_written_in
byte-has None board key address value = refl
byte-has (Some Z80Space) board key address value = space-has board.request board.store board key (z80_address address) value refl
byte-has (Some InputOutput) board key address value = register-has board key.cycle (register_at address) (value % 0x100)
byte-has (Some BusRequest) board key address value = has-same (address % 2 == 0) _ board (is_some board.store) refl refl
byte-has (Some Z80Reset) board key address value = has-same (address % 2 == 0) _ board (is_some board.store) (reset-has (value % 2 == 0) board key) refl
byte-has (Some VideoPorts) board key address value = video-byte-has (port_at address) board key address value

word-has : (area : Option Area) (board : Board) (key : Key) (address value : ℕ) → is_some (word_written_at area board key address value).store ≡ is_some board.store
unfolding word_written_in
word-has None board key address value = refl
word-has (Some Z80Space) board key address value = space-has board.request board.store board key (z80_address address) (value / 0x100) refl
word-has (Some InputOutput) board key address value = register-has board key.cycle (register_at address) (value % 0x100)
word-has (Some BusRequest) board key address value = refl
word-has (Some Z80Reset) board key address value = reset-has (value / 0x100 % 2 == 0) board key
word-has (Some VideoPorts) board key address value = video-word-has (port_at address) board key value

main-has : (board : Board) (key : Key) (request : Request68) → is_some (main_board board key request).store ≡ is_some board.store
unfolding main_board
main-has board key (Read8 address) = read-has (area_of address) board key address
main-has board key (Read16 address) = read-has (area_of address) board key address
main-has board key (Write8 address value) = byte-has (area_of address) board key address value
main-has board key (Write16 address value) = word-has (area_of address) board key address value
main-has board key (Ack level) = refl
main-has board key (Word value) = refl

line-has : (board : Board) (cycle : ℕ) (note : SpriteNote) → is_some (line_board board cycle note).store ≡ is_some board.store
unfolding line_board pads_board
line-has board cycle note =
    let pal = (video_started board cycle note).vdp.pal in
    has-same (cycle % frame_cycles pal == finished_at pal) _ (video_started board cycle note) (is_some board.store) refl refl

-- what the Z80 has stays with it but at a yield and a take
map-has : (f : Store → Store) (store : Option Store) → is_some (option_map f store) ≡ is_some store
map-has f None = refl
map-has f (Some store) = refl

came-has : (state : State80) (cause : ℕ) (r : Result Ended Request80) → is_some (came_to state cause r).store ≡ is_some state.store
came-has state cause (Ok ended) = map-has (written ended.writes) state.store
came-has state cause (Err request) = refl

went-has : (cart : List ℕ) (state : State80) (cause : ℕ) → is_some (went_on cart state cause).store ≡ is_some state.store
unfolding went_on
went-has cart state cause = came-has state cause (carried_out cart state cause)

begun-as-has : (case : Case) (cart : List ℕ) (state : State80) → is_some (begun_as case cart state).store ≡ is_some state.store
begun-as-has cases.Yield cart state = refl
begun-as-has cases.Take cart state = refl
begun-as-has cases.Suspended cart state = refl
begun-as-has cases.InReset cart state = refl
begun-as-has cases.Interrupt cart state = went-has cart state 1
begun-as-has cases.Halted cart state = refl
begun-as-has cases.Instruction cart state = went-has cart state 0

seen-by : (b : Bool) (one other : State80) (x : Bool) → is_some one.store ≡ x → is_some other.store ≡ x → is_some (if b then one else other).store ≡ x
seen-by true one other x first second = first
seen-by false one other x first second = second

seen-has : (state : State80) (pins : Pins80) → is_some (seen state pins).store ≡ is_some state.store
unfolding seen
seen-has state pins = seen-by (is_reset state pins) _ state (is_some state.store) refl refl

begun-has : (cart : List ℕ) (state : State80) (pins : Pins80) → is_some (begun cart state pins).store ≡ is_some state.store
unfolding begun
begun-has cart state pins = begun-as-has (case_of (seen state pins) pins) cart (seen state pins) ∙ seen-has state pins

-- a take is begun only where the Z80 has nothing
abbrev pub is_take : Stage → Bool
is_take Sample = false
is_take Access = false
is_take Yield = false
is_take Take = true

abbrev takes : Case → Bool
takes cases.Yield = false
takes cases.Take = true
takes cases.Suspended = false
takes cases.InReset = false
takes cases.Interrupt = false
takes cases.Halted = false
takes cases.Instruction = false

came-takes : (state : State80) (cause : ℕ) (r : Result Ended Request80) → is_take (came_to state cause r).stage ≡ false
came-takes state cause (Ok ended) = refl
came-takes state cause (Err request) = refl

went-takes : (cart : List ℕ) (state : State80) (cause : ℕ) → is_take (went_on cart state cause).stage ≡ false
unfolding went_on
went-takes cart state cause = came-takes state cause (carried_out cart state cause)

begun-as-takes : (case : Case) (cart : List ℕ) (state : State80) → is_take (begun_as case cart state).stage ≡ takes case
begun-as-takes cases.Yield cart state = refl
begun-as-takes cases.Take cart state = refl
begun-as-takes cases.Suspended cart state = refl
begun-as-takes cases.InReset cart state = refl
begun-as-takes cases.Interrupt cart state = went-takes cart state 1
begun-as-takes cases.Halted cart state = refl
begun-as-takes cases.Instruction cart state = went-takes cart state 0

running-by : (a b c : Bool) → takes (if a then cases.InReset else (if b then cases.Interrupt else (if c then cases.Halted else cases.Instruction))) ≡ false
running-by true b c = refl
running-by false true c = refl
running-by false false true = refl
running-by false false false = refl

running-takes : (state : State80) (pins : Pins80) → takes (running_case state pins) ≡ false
unfolding running_case
running-takes state pins = running-by pins.reset (is_interrupted state pins) state.halted

bus-takes : (request has : Bool) (running : Case) → takes running ≡ false → takes (bus_case request has running) ≡ true → has ≡ false
bus-takes true true running none taken = absurd (true≢false (sym taken))
bus-takes true false running none taken = refl
bus-takes false true running none taken = absurd (true≢false (sym taken ∙ none))
bus-takes false false running none taken = refl

case-takes : (state : State80) (pins : Pins80) → takes (case_of state pins) ≡ true → is_some state.store ≡ false
unfolding case_of
case-takes state pins taken = bus-takes pins.request (is_some state.store) (running_case state pins) (running-takes state pins) taken

begun-takes : (cart : List ℕ) (state : State80) (pins : Pins80) → is_take (begun cart state pins).stage ≡ true → is_some (begun cart state pins).store ≡ false
unfolding begun
begun-takes cart state pins taken =
    begun-as-has (case_of (seen state pins) pins) cart (seen state pins)
    ∙ case-takes (seen state pins) pins (sym (begun-as-takes (case_of (seen state pins) pins) cart (seen state pins)) ∙ taken)

-- the Z80 or the bus has them, and at a take it is not the Z80
pub record Owns (state : State80) (board : Board) : Type 0 where
  pub one : is_some state.store ≡ not (is_some board.store)
  pub taking : is_take state.stage ≡ true → is_some state.store ≡ false

-- a take, and a yield
took : (request : Bool) (store : Option Store) (board : Board) (key : Key) → store ≡ board.store → false ≡ not (is_some store)
    → is_some (store_in (taken_back request store board key).answer) ≡ not (is_some (taken_back request store board key).board.store)
took true store board key is one = one ∙ ap (λ (o : Option Store). not (is_some o)) is
took false None board key is one = one ∙ ap (λ (o : Option Store). not (is_some o)) is
took false (Some store) board key is one = refl

gave : (request : Bool) (board : Board) (key : Key) (store : Store) → true ≡ not (is_some board.store)
    → is_some (store_in (yielded request board key store).answer) ≡ not (is_some (yielded request board key store).board.store)
gave true board key store one = refl
gave false board key store one = one

handed-over : (own : Option Store) (board : Board) (key : Key) → is_some own ≡ not (is_some board.store)
    → is_some (store_in (sub_access board key (handing own)).answer) ≡ not (is_some (sub_access board key (handing own)).board.store)
unfolding sub_access
handed-over None board key one = took board.request board.store board key refl one
handed-over (Some store) board key one = gave board.request board key store one

taken-over : (own : Option Store) (board : Board) (key : Key) → is_some own ≡ false → is_some own ≡ not (is_some board.store)
    → is_some (store_in (sub_access board key TakeBack).answer) ≡ not (is_some (sub_access board key TakeBack).board.store)
unfolding sub_access
taken-over own board key none one = took board.request board.store board key refl (sym none ∙ one)

-- an access of an instruction leaves the bus what it has
byte-access : (request : Request80) (board : Board) (key : Key) → IsAccess request → (asks : RequestValue80) → asks ≡ asked_in (Err request)
    → is_some (sub_access board key asks).board.store ≡ is_some board.store
unfolding sub_access
byte-access (requests80.Read at) board key access asks is =
    subst (λ (a : RequestValue80). is_some (sub_access board key a).board.store ≡ is_some board.store) (sym is)
    (has-same (is_fm at) (fm_read board key.cycle) board (is_some board.store) refl refl)
byte-access (requests80.Write at value) board key access asks is =
    subst (λ (a : RequestValue80). is_some (sub_access board key a).board.store ≡ is_some board.store) (sym is)
    (has-same (is_psg80 at) (with_psg board key value) _ (is_some board.store) refl (has-same (is_fm at) (with_fm board key at value) board (is_some board.store) refl refl))
byte-access (requests80.Yield parcel) board key access asks is = absurd access
byte-access requests80.Take board key access asks is = absurd access

-- the Z80's access, by its stage
abbrev after_access : Stage → List ℕ → State80 → AnswerValue80 → State80
after_access stage cart state reported = answered_at stage cart (record state { store = kept_at stage state.store }) reported

access-owns : (stage : Stage) (chip : Chip80Value) (board : Board) (key : Key) → stage ≡ chip.state.stage → is_sample stage ≡ false → IsChip80 chip → Owns chip.state board
    → Owns (after_access stage chip.cart chip.state (sub_access board key (asked_at stage chip.cart chip.state)).answer) (sub_access board key (asked_at stage chip.cart chip.state)).board
access-owns Sample chip board key is kind ok owns = absurd (true≢false kind)
access-owns Access chip board key is kind ok owns =
    let at : IsAsking chip.cart chip.state = subst (λ (s : Stage). IsAt s chip.cart chip.state) (sym is) ok.stands in
    let access : IsAccess at.request = bounds80.asks chip.state.cause chip.state.regs _ at.request at.asked in
    let same : is_some (sub_access board key (asked_at Access chip.cart chip.state)).board.store ≡ is_some board.store =
    byte-access at.request board key access (asked_at Access chip.cart chip.state) (ap asked_in at.asked) in
    record {
      one = went-has chip.cart _ chip.state.cause ∙ owns.one ∙ ap not (sym same);
      taking = λ take. absurd (true≢false (sym take ∙ went-takes chip.cart _ chip.state.cause));
    }
access-owns Yield chip board key is kind ok owns = record {
  one = handed-over chip.state.store board key owns.one;
  taking = λ take. absurd (true≢false (sym take));
}
access-owns Take chip board key is kind ok owns = record {
  one = taken-over chip.state.store board key (owns.taking (sym (ap is_take is))) owns.one;
  taking = λ take. absurd (true≢false (sym take));
}

-- the moves, chip by chip
sub-by : (b : Bool) (z : Console) → (sub_next_of z.sub.state).sample ≡ b → IsChip80 z.sub → Owns z.sub.state z.shared
    → let new : Console = cond b
    (record z { sub = record z.sub { state = begun z.sub.cart z.sub.state (sub_pins z.shared) } })
    (record z { sub = record z.sub { state = answered z.sub.cart (handed z.sub.state) (sub_accessed z).answer }; shared = (sub_accessed z).board }) in
    Owns new.sub.state new.shared
unfolding sub_next_of answered handed asked_of
sub-by true z kind ok owns = record { one = begun-has z.sub.cart z.sub.state (sub_pins z.shared) ∙ owns.one; taking = begun-takes z.sub.cart z.sub.state (sub_pins z.shared) }
sub-by false z kind ok owns = access-owns z.sub.state.stage z.sub z.shared (sub_next_of z.sub.state).key refl kind ok owns

sub-owns : (z : Console) → IsChip80 z.sub → Owns z.sub.state z.shared → Owns (sub_moved z).sub.state (sub_moved z).shared
unfolding sub_moved
sub-owns z ok owns = sub-by (sub_next_of z.sub.state).sample z refl ok owns

-- a board that has as much as before
as-before : (state : State80) (old new : Board) → is_some new.store ≡ is_some old.store → Owns state old → Owns state new
as-before state old new same owns = record { one = owns.one ∙ ap not (sym same); taking = owns.taking }

main-by : (b : Bool) (z : Console) (one other : Console) → one.sub ≡ z.sub → other.sub ≡ z.sub → is_some one.shared.store ≡ is_some z.shared.store → is_some other.shared.store ≡ is_some z.shared.store
    → Owns z.sub.state z.shared → Owns (cond b one other).sub.state (cond b one other).shared
main-by true z one other own own' same same' owns =
    subst (λ (s : Chip80Value). Owns s.state one.shared) (sym own) (as-before z.sub.state z.shared one.shared same owns)
main-by false z one other own own' same same' owns =
    subst (λ (s : Chip80Value). Owns s.state other.shared) (sym own') (as-before z.sub.state z.shared other.shared same' owns)

main-owns : (z : Console) → Owns z.sub.state z.shared → Owns (main_moved z).sub.state (main_moved z).shared
unfolding main_moved
main-owns z owns =
    main-by (next_of z.main).sample z _ _ refl refl refl (main-has z.shared (next_of z.main).key (request_of z.cart z.main)) owns

fm-owns : (z : Console) → Owns z.sub.state z.shared → Owns (fm_moved z).sub.state (fm_moved z).shared
unfolding fm_moved fm_board
fm-owns z owns = as-before z.sub.state z.shared _ refl owns

psg-owns : (z : Console) → Owns z.sub.state z.shared → Owns (psg_moved z).sub.state (psg_moved z).shared
unfolding psg_moved psg_board
psg-owns z owns = as-before z.sub.state z.shared _ refl owns

line-owns : (z : Console) → Owns z.sub.state z.shared → Owns (line_moved z).sub.state (line_moved z).shared
unfolding line_moved
line-owns z owns = as-before z.sub.state z.shared _ (line-has z.shared z.line z.note) owns

pub move-owns : (z : Console) → IsChip80 z.sub → Owns z.sub.state z.shared → (i : ℕ) → i < 5 → Owns (moved z i).sub.state (moved z i).shared
unfolding moved
move-owns z ok owns =
    five-each (λ i. Owns (moved z i).sub.state (moved z i).shared) (main-owns z owns) (sub-owns z ok owns)
    (line-owns z owns) (fm-owns z owns) (psg-owns z owns)

-- the Z80 of a valid machine is valid
sub-valid : (m : Machine Chip Board) → IsValid five IsChip IsBoard m → IsChip80 (console_of m).sub
unfolding console_of
sub-valid m valid =
    let k = kind1 (m.chip 1) (valid.number 1 (lit< tt)) in
    let own : IsChip (Sub k.0) = subst IsChip k.1 (valid.chip 1 (lit< tt)) in
    subst (λ (c : Chip). IsChip80 (sub_of c).chip) (sym k.1) own

-- a run
owns-ran : (m : Machine Chip Board) (n : ℕ) → ValidTo m n → Movers → Owns (console_of m).sub.state (console_of m).shared
    → Owns (ran (console_of m) n).sub.state (ran (console_of m) n).shared
unfolding ran
owns-ran m zero valid movers first = first
owns-ran m (suc n) valid movers first =
    let valid' : ValidTo m n = λ k below. valid k (omega arith) in
    let same : console_of (run five m n) ≡ ran (console_of m) n = ran-same m n valid' movers in
    let ok : IsChip80 (ran (console_of m) n).sub = subst (λ (z : Console). IsChip80 z.sub) same (sub-valid (run five m n) (valid n (omega arith))) in
    move-owns (ran (console_of m) n) ok (owns-ran m n valid' movers first) (mover (ran (console_of m) n)) (mover-lt (ran (console_of m) n))

-- at power-on the Z80 has them
pub owner-is-one : (m : Machine Chip Board) (cart : List ℕ) (recording : Recorded) (pal : Bool) (n : ℕ) → console_of m ≡ power_on cart recording pal → ValidTo m n → Movers
    → HasOneOwner (ran (power_on cart recording pal) n)
unfolding states80.power_on
owner-is-one m cart recording pal n is valid movers =
    let first : Owns (power_on cart recording pal).sub.state (power_on cart recording pal).shared = record { one = refl; taking = λ take. absurd (true≢false (sym take)) } in
    let run_owns : Owns (ran (console_of m) n).sub.state (ran (console_of m) n).shared =
    owns-ran m n valid movers (subst (λ (z : Console). Owns z.sub.state z.shared) (sym is) first) in
    ap (λ (z : Console). is_some (ran z n).sub.state.store) (sym is) ∙ run_owns.one ∙ ap (λ (z : Console). not (is_some (ran z n).shared.store)) is
