-- The levels of a run from power-on are those of the sound generator over the writes of its journal.
use Rattle.std.proofs.Common.{◌≡◌, ℕ, zero, suc, ◌+◌, ◌*◌, ◌<◌, ◌≤◌, cond, Bool, true, false, not, List, [], ◌∷◌, ◌++◌, length, refl, sym, ap, ◌∙◌, subst, arith}
use Rattle.std.specs.Prelude.{ℤ, is_some}
use Rattle.md_chips.proofs.Counts.{fm-goes-on, psg-goes-on}
use Rattle.fm_chip.specs.Batches as fm_batches
use Rattle.fm_chip.specs.History as fm
use Rattle.fm_port.specs.Port as fm_ports
use Rattle.fm_chip.specs.Synth as fm_synths
use Rattle.fm_port.specs.declared.write.FmWrite.{FmWrite}
use Rattle.fm_chip.proofs.Histories as fm_histories
use Rattle.fm_chip.proofs.Histories.{chip_before-before}
use Rattle.machine_laws.proofs.Written.{fm-room, fm-starts, psg-room, psg-starts}
use Rattle.machine_laws.proofs.Held.{main_key, sub_key}
use Rattle.std.proofs.lemmas.List.{append-nil}
use Rattle.std.proofs.lemmas.Bool.{true≢false}
use Rattle.md_word.specs.Clock as clock
use Rattle.md_pads.specs.Recording.{Recorded}
use Rattle.md_word.specs.declared.event.Entry.{Entry}
use Rattle.md_word.specs.declared.key.Key.{Key}
use Rattle.m68k_chip.specs.Events.{request_of}
use Rattle.m68k_chip.specs.States.{next_of}
use Rattle.z80_chip.specs.Events.{asked_of}
use Rattle.z80_chip.specs.States.{next_of as sub_next_of}
use Rattle.vdp_planes.specs.declared.view.SpriteNote.{SpriteNote}
use Rattle.psg_sound.specs.Batches.{after_batch, samples}
use Rattle.psg_sound.specs.History.{IsInOrder, chip_before, level_at, levels}
use Rattle.psg_sound.specs.Port.{taken_below}
use Rattle.psg_sound.specs.Synth.{Synth}
use Rattle.psg_sound.specs.declared.write.PsgWrite.{PsgWrite}
use Rattle.psg_sound.proofs.Histories.{IsNextBatch-is, level_at-before}
use Rattle.bus_shared.proofs.Touches.{left_by_line}
use Rattle.bus_shared.specs.Accesses.{line_board, main_reported, psg_board}
use Rattle.bus_shared.specs.Fm.{fm_board}
use Rattle.bus_shared.specs.Board.{Board}
use Rattle.md_chips.specs.Console as consoles
use Rattle.md_chips.specs.Console.{AllBelow, Console, IsRunTo, first_of, fm_moved, journal, line_moved, main_moved, media_after, moved, mover, power_on, psg_moved, ran, rendered, sub_moved}
use Rattle.md_chips.specs.Media.{Media, no_media}
use Rattle.md_chips.specs.Movers.{mover-lt}
use Rattle.md_chips.specs.Owners.{HasOneOwner}
use Rattle.md_chips.specs.Starts.{IsStart, Start, batches_below, first_batch}
use Rattle.md_chips.proofs.Moves.{five-each}
use Rattle.machine_laws.specs.Heard.{HearsLevels, HearsSides}
use Rattle.journal_sound.specs.Heard.{after, heard_of, reported, has_after, request_after}
use Rattle.journal_sound.specs.declared.hearing.Hearing.{Hearing}
use Rattle.journal_sound.specs.declared.sound_access.SoundAccess.TheVariants.{Nothing}
use Rattle.machine_laws.specs.Paces.{ArePaced}
use Rattle.machine_laws.proofs.Effects.{Reports, held_all, hearing, main-has_after, main-reports, sub_access-reports}
use Rattle.machine_laws.proofs.Ports.{IsReported, PortHolds, PortOf, fm_port, holds-ran, main-for, none, one, sub-for, psg_port, room-for}
use Rattle.machine_laws.proofs.Sounds.{Batch, Known, SoundMove, SoundOf, hears, known-levels, known-made, known-order, makes, reports}

-- ---- moves as a port hears them

-- what is after an access that its entry reports
hearing-reported : (key : Key) (e : Entry) (old new : Board) → Reports key e old new → is_some new.store ≡ has_after e (is_some old.store) → hearing new ≡ after e (hearing old)
hearing-reported key e old new is has =
    λ i. record { request = is.request i; has = has i; first = is.takes.first i; second = is.takes.second i }

held-by : {A : Type 0} (p : PortOf A) (ws what : List A) (key : Key) → length ws ≤ 936 → IsReported p.key p.right key what → held_all ws what ≡ ws ++ (what ++ [])
held-by p ws what key few (none is) = ap (held_all ws) is ∙ sym (append-nil ws) ∙ ap (λ l. ws ++ (l ++ [])) (sym is)
held-by p ws what key few (one w is at right) = ap (held_all ws) is ∙ room-for ws w few ∙ ap (λ l. ws ++ (l ++ [])) (sym is)

-- what a port holds after it
held-reported : {A : Type 0} (p : PortOf A) (key : Key) (e : Entry) (old new : Board) → Reports key e old new → length (p.held old) ≤ 936
    → IsReported p.key p.right key (p.of key (reported (hearing old) e) (hearing old)) → p.held new ≡ p.held old ++ (p.of e.key (reported (hearing old) e) (hearing old) ++ [])
held-reported {A = A} p key e old new is few what =
    p.takes key (reported (hearing old) e) old new is.takes ∙ held-by p (p.held old) _ key few what
    ∙ ap (λ (k : Key). p.held old ++ (p.of k (reported (hearing old) e) (hearing old) ++ [])) (sym is.at)

-- what is reported on the way from one machine to another reaches a port
record Tell {A : Type 0} (p : PortOf A) (z : Console) (reported : List Entry) (w : Console) : Type 0 where
  hears_is : hearing w.shared ≡ hears (hearing z.shared) reported
  held : p.held w.shared ≡ p.held z.shared ++ heard_of p.of (hearing z.shared) reported

module _ {A : Type 0} (p : PortOf A) (z : Console) where
  tell-none : (w : Console) → hearing w.shared ≡ hearing z.shared → p.held w.shared ≡ p.held z.shared → Tell p z [] w
  unfolding hears heard_of
  tell-none w same held = record { hears_is = same; held = held ∙ sym (append-nil (p.held z.shared)) }

  tell-one : (key : Key) (e : Entry) (w : Console) → length (p.held z.shared) ≤ 936 → Reports key e z.shared w.shared → is_some w.shared.store ≡ has_after e (is_some z.shared.store)
      → IsReported p.key p.right key (p.of key (reported (hearing z.shared) e) (hearing z.shared)) → Tell p z (e ∷ []) w
  unfolding hears heard_of
  tell-one key e w few is has what = record { hears_is = hearing-reported key e z.shared w.shared is has; held = held-reported p key e z.shared w.shared is few what }

  tell-by : (b : Bool) (x y : Console) (e : Entry) → Tell p z [] x → (HasOneOwner y → Tell p z (e ∷ []) y) → HasOneOwner (cond b x y) → Tell p z (cond b [] (e ∷ [])) (cond b x y)
  tell-by true x y e first second one_owner = first
  tell-by false x y e first second one_owner = second one_owner

  not-same : (a b : Bool) → not a ≡ not b → a ≡ b
  not-same true true is = refl
  not-same true false is = absurd (true≢false (sym is))
  not-same false true is = absurd (true≢false is)
  not-same false false is = refl

  -- the 68000 leaves who has the Z80's RAM
  main-tell : length (p.held z.shared) ≤ 936 → HasOneOwner z → HasOneOwner (main_moved z) → Tell p z (consoles.reported z 0) (main_moved z)
  unfolding main_moved consoles.reported main_reported next_of
  main-tell few owner owner' =
      let key : Key = main_key z.main.next in
      let request = request_of z.cart z.main in
      tell-by (next_of z.main).sample _ _ _ (tell-none _ refl refl)
      (λ after_owner. tell-one key _ _ few (main-reports z.shared key request _ _)
      (not-same _ _ (sym after_owner ∙ owner) ∙ sym (main-has_after key request _ _ (is_some z.shared.store)))
      (p.reported key _ (hearing z.shared) (main-for z.main.next _)))
      owner'

  sub-tell : length (p.held z.shared) ≤ 936 → HasOneOwner (sub_moved z) → Tell p z (consoles.reported z 1) (sub_moved z)
  unfolding sub_moved consoles.reported sub_next_of
  sub-tell few owner' =
      let key : Key = sub_key z.sub.state.next in
      let request = asked_of z.sub.cart z.sub.state in
      let is = sub_access-reports z.shared key request in
      tell-by (sub_next_of z.sub.state).sample _ _ _ (tell-none _ refl refl)
      (λ after_owner. tell-one key _ _ few is.reports is.has (p.reported key _ (hearing z.shared) (sub-for z.shared key request))) owner'

-- the entries of lines and batches tell nothing
line-hearing : (board : Board) (cycle : ℕ) (note : SpriteNote) → hearing (line_board board cycle note) ≡ hearing board
line-hearing board cycle note =
    let leaves = left_by_line board cycle note in
    λ i. record { request = leaves.request i; has = is_some (leaves.store i); first = (leaves.fm i).first; second = (leaves.fm i).second }

-- where nothing is reported a port gets nothing
reported-nothing : {A : Type 0} (p : PortOf A) (key : Key) (h : Hearing) → [] ≡ p.of key Nothing h ++ []
reported-nothing p key h = sym (append-nil (p.of key Nothing h) ∙ p.silent key h)

line-tell : {A : Type 0} (p : PortOf A) (z : Console) → Tell p z (consoles.reported z 2) (line_moved z)
unfolding line_moved consoles.reported hears heard_of reported request_after has_after
line-tell p z = record {
  hears_is = line-hearing z.shared z.line z.note;
  held = p.line z.shared z.line z.note ∙ sym (append-nil (p.held z.shared)) ∙ ap (λ l. p.held z.shared ++ l) (reported-nothing p (record { cycle = z.line; chip = 2 }) (hearing z.shared));
}

-- a batch of the other chip, which leaves the port, and one of its own
psg-batch-tell : (z : Console) → Tell fm_port z (consoles.reported z 4) (psg_moved z)
unfolding psg_moved psg_board fm_port consoles.reported hears heard_of reported request_after has_after
psg-batch-tell z = record { hears_is = refl; held = sym (append-nil z.shared.fm.writes) }

fm-batch-tell : (z : Console) → Tell psg_port z (consoles.reported z 3) (fm_moved z)
unfolding fm_moved fm_board psg_port consoles.reported hears heard_of reported request_after has_after
fm-batch-tell z = record { hears_is = refl; held = sym (append-nil z.shared.psg) }

-- what both of two machines leave
either-leaves : {A : Type 0} (f : Console → A) (b : Bool) (x y : Console) (a : A) → f x ≡ a → f y ≡ a → f (cond b x y) ≡ a
either-leaves f true x y a same same' = same
either-leaves f false x y a same same' = same'

-- ---- the sound generator

unfoldable pub generator : SoundOf PsgWrite Synth ℤ
unfolding psg_port
generator = record {
  port = psg_port;
  chip = λ z. z.psg;
  made = λ m. m.levels;
  before = chip_before;
  at = level_at;
  nothing = refl;
  more = λ x y. refl;
  earlier = level_at-before;
}

psg-main : (z : Console) → ((main_moved z).psg_cycle ≡ z.psg_cycle) × ((main_moved z).psg ≡ z.psg)
unfolding main_moved
psg-main z = (either-leaves (λ m. m.psg_cycle) (next_of z.main).sample _ _ z.psg_cycle refl refl, either-leaves (λ m. m.psg) (next_of z.main).sample _ _ z.psg refl refl)

psg-sub : (z : Console) → ((sub_moved z).psg_cycle ≡ z.psg_cycle) × ((sub_moved z).psg ≡ z.psg)
unfolding sub_moved
psg-sub z = (either-leaves (λ m. m.psg_cycle) (sub_next_of z.sub.state).sample _ _ z.psg_cycle refl refl, either-leaves (λ m. m.psg) (sub_next_of z.sub.state).sample _ _ z.psg refl refl)

psg-batch-made : (z : Console) (history : List PsgWrite) → let first = first_of z.psg_cycle in let taken = taken_below z.psg_cycle z.shared.psg in
    IsInOrder 0 (clock.fm_sample * first) history → IsInOrder (clock.fm_sample * first) (clock.fm_sample * (first + 16)) taken → z.psg ≡ chip_before history first → Batch generator z 4 first taken history
unfolding generator moved rendered psg_moved levels
psg-batch-made z history past span at =
    let first : ℕ = first_of z.psg_cycle in
    let taken : List PsgWrite = taken_below z.psg_cycle z.shared.psg in
    let next = IsNextBatch-is history taken first z.psg (after_batch first z.psg taken) (samples first z.psg taken) refl refl (record { past = past; span = span }) at in
    record { made = next.out; chip = next.chip }

psg-own : (z : Console) → SoundMove generator z 4
unfolding generator moved rendered psg_port psg_moved psg_board consoles.reported hears heard_of reported request_after has_after
psg-own z = makes refl refl refl refl (psg-batch-made z)

psg-moves : (z : Console) → length z.shared.psg ≤ 936 → HasOneOwner z → (i : ℕ) → i < 5 → HasOneOwner (moved z i) → SoundMove generator z i
unfolding generator moved rendered psg_port line_moved fm_moved
psg-moves z few owner =
    five-each (λ i. HasOneOwner (moved z i) → SoundMove generator z i)
    (λ owner'. let is = main-tell psg_port z few owner owner' in reports is.hears_is is.held (psg-main z).0 (psg-main z).1 refl)
    (λ owner'. let is = sub-tell psg_port z few owner' in reports is.hears_is is.held (psg-sub z).0 (psg-sub z).1 refl)
    (λ owner'. let is = line-tell psg_port z in reports is.hears_is is.held refl refl refl)
    (λ owner'. let is = fm-batch-tell z in reports is.hears_is is.held refl refl refl)
    (λ owner'. psg-own z)

-- at power-on
psg-first : (cart : List ℕ) (recording : Recorded) (pal : Bool) → Known generator (power_on cart recording pal) [] no_media
unfolding generator psg_port hears heard_of chip_before
psg-first cart recording pal = record {
  batches = 0;
  done = [];
  hearing_is = refl;
  all = refl;
  next = refl;
  past = tt;
  chip = refl;
  made = refl;
}

-- a run of which each machine has one owner of the Z80's RAM
abbrev pub HaveOwners : Console → ℕ → Type 0
HaveOwners m n = (k : ℕ) → k ≤ n → HasOneOwner (ran m k)

known-ran : (cart : List ℕ) (recording : Recorded) (pal : Bool) (end n : ℕ) → let m = power_on cart recording pal in ArePaced m n → AllBelow m end n → HaveOwners m n → PortHolds psg_port end m
    → Known generator (ran m n) (journal m n) (media_after m n)
unfolding ran journal media_after generator psg_port
known-ran cart recording pal end zero paced below owners first = psg-first cart recording pal
known-ran cart recording pal end (suc n) paced below owners first =
    let m : Console = power_on cart recording pal in
    let z : Console = ran m n in
    let earlier : ArePaced m n = λ k within. paced k (omega arith) in
    let lower : AllBelow m end n = λ k within. below k (omega arith) in
    let holds : PortHolds psg_port end z = holds-ran psg_port end m n earlier lower first in
    let known : Known generator z (journal m n) (media_after m n) = known-ran cart recording pal end n earlier lower (λ k within. owners k (omega arith)) first in
    known-made generator end z (mover z) (journal m n) (media_after m n) known holds
    (psg-moves z (psg-room end z holds) (owners n (omega arith)) (mover z) (mover-lt z) (owners (suc n) (omega arith)))

-- how many batches there were
batches_of : (end batches cycle : ℕ) → cycle ≡ first_batch end → cycle ≡ clock.batch * batches + clock.batch → (batches ≡ batches_below end) × (clock.batch * batches ≤ end)
batches_of end batches cycle is next = (omega (arith, is, next), omega (arith, is, next))

psg-levels : (end : ℕ) (z : Console) (es : List Entry) (output : Media) → z.psg_cycle ≡ first_batch end → PortHolds psg_port end z → Known generator z es output → HearsLevels end es output.levels
unfolding generator psg_port
psg-levels end z es output cycle holds known =
    let count = batches_of end known.batches z.psg_cycle cycle known.next in
    record {
      order = known-order generator end z es output known holds count.1;
      levels_are = known-levels generator end z es output (batches_below end) known holds count.0;
    }

pub levels-heard : (cart : List ℕ) (recording : Recorded) (pal : Bool) (z : Console) (end : ℕ) (entries : List Entry) (output : Media)
    → IsStart (record { at = 0; console = power_on cart recording pal }) → (run : IsRunTo (power_on cart recording pal) end z entries output) → ArePaced (power_on cart recording pal) run.moves → HaveOwners (power_on cart recording pal) run.moves
    → HearsLevels end entries output.levels
levels-heard cart recording pal z end entries output is run paced owners =
    let m : Console = power_on cart recording pal in
    let start : Start = record { at = 0; console = m } in
    let first : PortHolds psg_port end m = psg-starts start end is (record { fm = refl; psg = refl; fm_early = refl; psg_early = refl }) (omega arith) in
    let known : Known generator (ran m run.moves) (journal m run.moves) (media_after m run.moves) = known-ran cart recording pal end run.moves paced run.below owners first in
    let at : Known generator z entries output =
    subst (λ (w : Console). Known generator w entries output) (sym run.console)
    (subst (λ (es : List Entry). Known generator (ran m run.moves) es output) (sym run.entered)
    (subst (λ (out : Media). Known generator (ran m run.moves) (journal m run.moves) out) (sym run.rendered_to) known)) in
    let holds : PortHolds psg_port end z = subst (PortHolds psg_port end) (sym run.console) (holds-ran psg_port end m run.moves paced run.below first) in
    psg-levels end z entries output (psg-goes-on start z end entries output is (omega arith) run) holds at

-- ---- the FM chip

-- later writes change no earlier sample
pub sides_at-before : (low high k : ℕ) (history ws : List FmWrite) → fm_ports.IsInOrder low high ws → clock.fm_sample * k ≤ low → fm.sides_at (history ++ ws) k ≡ fm.sides_at history k
unfolding fm.sides_at
sides_at-before low high k history ws o h = ap (fm_synths.sides k) (chip_before-before low high history ws o k h)

unfoldable pub fm_sides : SoundOf FmWrite fm_synths.Synth (ℤ × ℤ)
unfolding fm_port
fm_sides = record {
  port = fm_port;
  chip = λ z. z.fm;
  made = λ m. m.sides;
  before = fm.chip_before;
  at = fm.sides_at;
  nothing = refl;
  more = λ x y. refl;
  earlier = sides_at-before;
}

fm-main : (z : Console) → ((main_moved z).fm_cycle ≡ z.fm_cycle) × ((main_moved z).fm ≡ z.fm)
unfolding main_moved
fm-main z = (either-leaves (λ m. m.fm_cycle) (next_of z.main).sample _ _ z.fm_cycle refl refl, either-leaves (λ m. m.fm) (next_of z.main).sample _ _ z.fm refl refl)

fm-sub : (z : Console) → ((sub_moved z).fm_cycle ≡ z.fm_cycle) × ((sub_moved z).fm ≡ z.fm)
unfolding sub_moved
fm-sub z = (either-leaves (λ m. m.fm_cycle) (sub_next_of z.sub.state).sample _ _ z.fm_cycle refl refl, either-leaves (λ m. m.fm) (sub_next_of z.sub.state).sample _ _ z.fm refl refl)

fm-batch-made : (z : Console) (history : List FmWrite) → let first = first_of z.fm_cycle in let taken = fm_ports.taken_below z.fm_cycle z.shared.fm.writes in
    fm_ports.IsInOrder 0 (clock.fm_sample * first) history → fm_ports.IsInOrder (clock.fm_sample * first) (clock.fm_sample * (first + 16)) taken → z.fm ≡ fm.chip_before history first → Batch fm_sides z 3 first taken history
unfolding fm_sides moved rendered fm_moved fm.sixteen
fm-batch-made z history past span at =
    let first : ℕ = first_of z.fm_cycle in
    let taken : List FmWrite = fm_ports.taken_below z.fm_cycle z.shared.fm.writes in
    let next = fm_histories.IsNextBatch-is history taken first z.fm (fm_batches.after_batch first z.fm taken) (fm_batches.samples first z.fm taken) refl refl (record { past = past; span = span }) at in
    record { made = next.out; chip = next.chip }

fm-own : (z : Console) → SoundMove fm_sides z 3
unfolding fm_sides moved rendered fm_port fm_moved fm_board consoles.reported hears heard_of reported request_after has_after
fm-own z = makes refl refl refl refl (fm-batch-made z)

fm-moves : (z : Console) → length z.shared.fm.writes ≤ 936 → HasOneOwner z → (i : ℕ) → i < 5 → HasOneOwner (moved z i) → SoundMove fm_sides z i
unfolding fm_sides moved rendered fm_port line_moved psg_moved
fm-moves z few owner =
    five-each (λ i. HasOneOwner (moved z i) → SoundMove fm_sides z i)
    (λ owner'. let is = main-tell fm_port z few owner owner' in reports is.hears_is is.held (fm-main z).0 (fm-main z).1 refl)
    (λ owner'. let is = sub-tell fm_port z few owner' in reports is.hears_is is.held (fm-sub z).0 (fm-sub z).1 refl)
    (λ owner'. let is = line-tell fm_port z in reports is.hears_is is.held refl refl refl)
    (λ owner'. fm-own z)
    (λ owner'. let is = psg-batch-tell z in reports is.hears_is is.held refl refl refl)

fm-first : (cart : List ℕ) (recording : Recorded) (pal : Bool) → Known fm_sides (power_on cart recording pal) [] no_media
unfolding fm_sides fm_port hears heard_of fm.chip_before
fm-first cart recording pal = record {
  batches = 0;
  done = [];
  hearing_is = refl;
  all = refl;
  next = refl;
  past = tt;
  chip = refl;
  made = refl;
}

fm-known-ran : (cart : List ℕ) (recording : Recorded) (pal : Bool) (end n : ℕ) → let m = power_on cart recording pal in ArePaced m n → AllBelow m end n → HaveOwners m n → PortHolds fm_port end m
    → Known fm_sides (ran m n) (journal m n) (media_after m n)
unfolding ran journal media_after fm_sides fm_port
fm-known-ran cart recording pal end zero paced below owners first = fm-first cart recording pal
fm-known-ran cart recording pal end (suc n) paced below owners first =
    let m : Console = power_on cart recording pal in
    let z : Console = ran m n in
    let earlier : ArePaced m n = λ k within. paced k (omega arith) in
    let lower : AllBelow m end n = λ k within. below k (omega arith) in
    let holds : PortHolds fm_port end z = holds-ran fm_port end m n earlier lower first in
    let known : Known fm_sides z (journal m n) (media_after m n) = fm-known-ran cart recording pal end n earlier lower (λ k within. owners k (omega arith)) first in
    known-made fm_sides end z (mover z) (journal m n) (media_after m n) known holds
    (fm-moves z (fm-room end z holds) (owners n (omega arith)) (mover z) (mover-lt z) (owners (suc n) (omega arith)))

fm-hears : (end : ℕ) (z : Console) (es : List Entry) (output : Media) → z.fm_cycle ≡ first_batch end → PortHolds fm_port end z → Known fm_sides z es output → HearsSides end es output.sides
unfolding fm_sides fm_port
fm-hears end z es output cycle holds known =
    let count = batches_of end known.batches z.fm_cycle cycle known.next in
    record {
      order = known-order fm_sides end z es output known holds count.1;
      sides_are = known-levels fm_sides end z es output (batches_below end) known holds count.0;
    }

pub sides-heard : (cart : List ℕ) (recording : Recorded) (pal : Bool) (z : Console) (end : ℕ) (entries : List Entry) (output : Media)
    → IsStart (record { at = 0; console = power_on cart recording pal }) → (run : IsRunTo (power_on cart recording pal) end z entries output) → ArePaced (power_on cart recording pal) run.moves
    → HaveOwners (power_on cart recording pal) run.moves → HearsSides end entries output.sides
sides-heard cart recording pal z end entries output is run paced owners =
    let m : Console = power_on cart recording pal in
    let start : Start = record { at = 0; console = m } in
    let first : PortHolds fm_port end m = fm-starts start end is (record { fm = refl; psg = refl; fm_early = refl; psg_early = refl }) (omega arith) in
    let known : Known fm_sides (ran m run.moves) (journal m run.moves) (media_after m run.moves) = fm-known-ran cart recording pal end run.moves paced run.below owners first in
    let at : Known fm_sides z entries output =
    subst (λ (w : Console). Known fm_sides w entries output) (sym run.console)
    (subst (λ (es : List Entry). Known fm_sides (ran m run.moves) es output) (sym run.entered)
    (subst (λ (out : Media). Known fm_sides (ran m run.moves) (journal m run.moves) out) (sym run.rendered_to) known)) in
    let holds : PortHolds fm_port end z = subst (PortHolds fm_port end) (sym run.console) (holds-ran fm_port end m run.moves paced run.below first) in
    fm-hears end z entries output (fm-goes-on start z end entries output is (omega arith) run) holds at
