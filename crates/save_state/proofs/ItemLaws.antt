-- Each item as its reader reads it.
use Rattle.std.proofs.Common.{◌≡◌, ◌≢◌, ℕ, ◌<◌, ◌≤◌, leb, eqb, arith, Bool, true, false, ◌==◌, List, [], ◌∷◌, length, refl, sym, ap, subst, ◌∙◌, inl, inr, Result, Ok}
use Rattle.std.specs.Result.{IfOk}
use Rattle.md_word.specs.declared.unspell.Unspell.{Unspell}
use Rattle.md_word.specs.declared.unspell.Unspell.TheVariants.{Rule, NoMemory}
use Rattle.m68k_chip.specs.Validity.{Chip68Value}
use Rattle.m68k_chip.specs.Spelling as main
use Rattle.m68k_chip.specs.States.{State68}
use Rattle.z80_chip.specs.Validity.{Chip80Value}
use Rattle.z80_chip.specs.Spelling as sub
use Rattle.z80_chip.specs.States.{State80}
use Rattle.save_state.specs.declared.layout.Part.{Part}
use Rattle.md_fields.specs.Places.{Stand, number_at}
use Rattle.md_fields.proofs.Standing.{spelled_stand}
use Rattle.sound_writes.specs.Keys.{is_before_next}
use Rattle.md_chips.specs.Starts.{first_batch}
use Rattle.md_pads.specs.Recording.{Recorded}
use Rattle.bus_shared.specs.Board.{Board}
use Rattle.bus_shared.specs.Spelling as shared
use Rattle.vdp_chip.specs.RendererState.{RendererState}
use Rattle.vdp_chip.specs.Spelling as renderer_state
use Rattle.fm_chip.specs.Synth as fm_synths
use Rattle.fm_chip.specs.SynthSpelling as fm
use Rattle.psg_sound.specs.Synth as psg_synths
use Rattle.psg_sound.specs.SynthSpelling as psg
use Rattle.fm_port.specs.Port.{Port}
use Rattle.fm_port.specs.PortSpelling as fm_port
use Rattle.fm_port.specs.declared.write.FmWrite.{FmWrite}
use Rattle.fm_port.proofs.PortBytes.{spelled_once as fm_once}
use Rattle.psg_sound.specs.PortSpelling as psg_port
use Rattle.psg_sound.specs.declared.write.PsgWrite.{PsgWrite}
use Rattle.psg_sound.proofs.PortBytes.{spelled_once as psg_once}
use Rattle.save_state.specs.Items.{at_of, region_of, main_next, sub_next, holder_in, stage_of, seen_resets, resets_of, resets_place, fm_writes_place, main_bytes, sub_bytes, shared_bytes, renderer_state_bytes, IsMain, MainFails, IsSub, SubFails, chip_fails, holder_fails, IsShared, SharedFails, board_fails, resets_fail, IsPicture, RendererStateFails, HasLateFm, IsFm, FmFails, synth_fails, next_fails, writes_fail, HasLatePsg, IsPsg, PsgFails, psg_synth_fails, psg_next_fails, psg_writes_fail}
use Rattle.save_state.specs.Joining.{Reads, FailsIn, placed, with_rule, Either}
use Rattle.save_state.specs.Layout.{main_part, holder_part, renderer_state_part, fm_port_part, fm_part, fm_next_part, psg_part, psg_next_part, psg_port_part, part_of, sub_parts, shared_parts, gathered, are_ordered}
use Rattle.save_state.specs.States.{is_holder, are_fm_early, are_psg_early}
use Rattle.std.specs.Int.{w16, w64}
use Rattle.std.specs.List.{list_all}
use Rattle.std.proofs.lemmas.Bool.{leb-false, eqb-false, lt-leb, ne_eqb}
use Rattle.save_state.proofs.Places.{yes}
use Rattle.md_fields.proofs.Refusals.{failed}
use Rattle.save_state.proofs.Joins.{item, said, reads_ruled, Ruled, Breaks}

no : (b : Bool) → b ≡ true → ¬ (b ≡ false)
no b t f = cc

shared_ordered : (has : Bool) → are_ordered 0 (shared_parts has) ≡ true
shared_ordered true = refl
shared_ordered false = refl

-- where they cannot differ, numbers are the same
equal : (a b : ℕ) → ¬ (a ≢ b) → a ≡ b
equal a b h = grind (arith, h)

sub_ordered : (has : Bool) → are_ordered 0 (sub_parts has) ≡ true
sub_ordered true = refl
sub_ordered false = refl

-- ---- the 68000

abbrev MainKept : List ℕ → ℕ → List ℕ → Chip68Value → Type 0
MainKept cart at bytes chip = (chip.cart ≡ cart) × main.Spells cart at bytes chip.state

pub main_read : (cart bytes : List ℕ) (at : ℕ) (part : List ℕ) (answer read : Result Chip68Value Unspell) → read ≡ placed (main_part ∷ []) answer → at ≡ at_of bytes → part ≡ main_bytes bytes → IfOk answer (MainKept cart at part) → ((state : State68) → main.Spells cart at part state → answer ≢ failed NoMemory → answer ≡ Ok (record { cart = cart; state = state })) → ((p : ℕ) → answer ≡ failed (Rule p) → main.InvalidAt cart at part p) → ((p : ℕ) → main.InvalidAt cart at part p → answer ≡ failed (Rule p)) → Reads (IsMain cart bytes) (MainFails cart bytes) read
main_read cart bytes at part answer read r e f found only rule invalid =
    subst (Reads (IsMain cart bytes) (MainFails cart bytes)) (sym r) (
    said (MainKept cart (at_of bytes) (main_bytes bytes)) (IsMain cart bytes) (MainFails cart bytes) (MainFails cart bytes) (placed (main_part ∷ []) answer)
    (λ x k. record { image = k.0; spells = k.1 }) (λ x k. (k.image, k.spells)) (λ p h. h) (λ p h. h)
    (item (MainKept cart) (main.InvalidAt cart) (main_part ∷ []) (main_part ∷ []) at (at_of bytes) part (main_bytes bytes) answer refl refl e f found
    (λ x k n. only x.state k.1 n ∙ (λ i. Ok (record { cart = sym k.0 i; state = x.state }))) rule (λ p h n. invalid p h)))

-- ---- the Z80

abbrev SubKept : List ℕ → ℕ → List ℕ → Chip80Value → Type 0
SubKept cart at bytes chip = (chip.cart ≡ cart) × sub.Spells cart at bytes chip.state

pub sub_read : (cart bytes : List ℕ) (at : ℕ) (parts : List Part) (part : List ℕ) (has holds : Bool) (answer chip read : Result Chip80Value Unspell) → chip ≡ placed parts answer → read ≡ with_rule chip holds holder_part.place → has ≡ (holder_in bytes == 0) → holds ≡ is_holder (holder_in bytes) (stage_of bytes) → at ≡ at_of bytes → parts ≡ sub_parts has → part ≡ gathered parts bytes → IfOk answer (SubKept cart at part) → ((state : State80) → sub.Spells cart at part state → answer ≢ failed NoMemory → answer ≡ Ok (record { cart = cart; state = state })) → ((p : ℕ) → answer ≡ failed (Rule p) → sub.InvalidAt cart at part p) → ((p : ℕ) → sub.InvalidAt cart at part p → answer ≢ failed NoMemory → answer ≡ failed (Rule p)) → Reads (IsSub cart bytes) (SubFails cart bytes) read
sub_read cart bytes at parts part has holds answer chip read r s h b e g f found only rule invalid =
    subst (Reads (IsSub cart bytes) (SubFails cart bytes)) (sym (s ∙ ap (λ (a : Result Chip80Value Unspell). with_rule a holds holder_part.place) r)) (
    said (Ruled (SubKept cart (at_of bytes) (sub_bytes bytes)) Broken) (IsSub cart bytes)
    (Either (FailsIn (sub_parts (holder_in bytes == 0)) (sub.InvalidAt cart (at_of bytes) (sub_bytes bytes))) (Breaks holder_part.place Broken)) (SubFails cart bytes)
    (with_rule (placed parts answer) holds holder_part.place)
    (λ x k. record { image = k.0.0; spells = k.0.1; holder = yes (is_holder (holder_in bytes) (stage_of bytes)) k.1 })
    (λ x k. ((k.image, k.spells), no (is_holder (holder_in bytes) (stage_of bytes)) k.holder))
    (λ p w. elim w [ inl q ↦ chip_fails q | inr q ↦ holder_fails q.0 q.1 ])
    (λ p w. elim w [ chip_fails q ↦ inl q | holder_fails q t ↦ inr (q, t) ])
    (reads_ruled (SubKept cart (at_of bytes) (sub_bytes bytes)) (FailsIn (sub_parts (holder_in bytes == 0)) (sub.InvalidAt cart (at_of bytes) (sub_bytes bytes))) (placed parts answer) holds holder_part.place Broken (λ q. sym b ∙ q) (λ q. b ∙ q)
    (item (SubKept cart) (sub.InvalidAt cart) (sub_parts (holder_in bytes == 0)) parts at (at_of bytes) part (sub_bytes bytes) answer whole (sub_ordered (holder_in bytes == 0)) e (f ∙ ap (λ (ps : List Part). gathered ps bytes) whole) found
    (λ x k n. only x.state k.1 n ∙ (λ i. Ok (record { cart = sym k.0 i; state = x.state }))) rule invalid))) where
      Broken : Type 0
      Broken = is_holder (holder_in bytes) (stage_of bytes) ≡ false

      whole : parts ≡ sub_parts (holder_in bytes == 0)
      whole = g ∙ ap sub_parts h

-- ---- the board

abbrev SharedKept : Recorded → Bool → ℕ → List ℕ → Board → Type 0
SharedKept recording pal at bytes board = shared.Spells at pal bytes board × (board.recording ≡ recording)

not_below : (a b : ℕ) → ¬ (b < a) → a ≤ b
not_below a b h = grind (arith, h)

shared_read_in : (recording : Recorded) (bytes : List ℕ) (at : ℕ) (parts : List Part) (part : List ℕ) (has : Bool) (seen resets : ℕ) (answer board read : Result Board Unspell) → board ≡ placed parts answer → read ≡ with_rule board (leb seen resets) resets_place → has ≡ (holder_in bytes == 1) → seen ≡ seen_resets bytes → resets ≡ resets_of bytes → at ≡ at_of bytes → parts ≡ shared_parts has → part ≡ gathered parts bytes → IfOk answer (SharedKept recording (region_of bytes) at part) → ((b : Board) → shared.Spells at (region_of bytes) part b → b.recording ≡ recording → answer ≢ failed NoMemory → answer ≡ Ok b) → ((p : ℕ) → answer ≡ failed (Rule p) → shared.InvalidAt at (region_of bytes) part p) → ((p : ℕ) → shared.InvalidAt at (region_of bytes) part p → answer ≢ failed NoMemory → answer ≡ failed (Rule p)) → Reads (IsShared recording bytes) (SharedFails bytes) read
shared_read_in recording bytes at parts part has seen resets answer board read r s h a b e g f found only rule invalid =
    subst (Reads (IsShared recording bytes) (SharedFails bytes)) (sym (s ∙ ap (λ (x : Result Board Unspell). with_rule x (leb seen resets) resets_place) r)) (
    said (Ruled (SharedKept recording (region_of bytes) (at_of bytes) (shared_bytes bytes)) Broken) (IsShared recording bytes)
    (Either (FailsIn (shared_parts (holder_in bytes == 1)) (shared.InvalidAt (at_of bytes) (region_of bytes) (shared_bytes bytes))) (Breaks resets_place Broken)) (SharedFails bytes)
    (with_rule (placed parts answer) (leb seen resets) resets_place)
    (λ x k. record { pads = k.0.1; spells = k.0.0; resets = not_below (seen_resets bytes) (resets_of bytes) k.1 })
    (λ x k. ((k.spells, k.pads), λ t. omega (arith, t, k.resets)))
    (λ p w. elim w [ inl q ↦ board_fails q | inr q ↦ resets_fail q.0 q.1 ])
    (λ p w. elim w [ board_fails q ↦ inl q | resets_fail q t ↦ inr (q, t) ])
    (reads_ruled (SharedKept recording (region_of bytes) (at_of bytes) (shared_bytes bytes)) (FailsIn (shared_parts (holder_in bytes == 1)) (shared.InvalidAt (at_of bytes) (region_of bytes) (shared_bytes bytes))) (placed parts answer) (leb seen resets) resets_place Broken (λ q. omega (arith, a, b, leb-false seen resets q)) (λ q. lt-leb seen resets (omega (arith, a, b, q)))
    (item (SharedKept recording (region_of bytes)) (λ (n : ℕ). shared.InvalidAt n (region_of bytes)) (shared_parts (holder_in bytes == 1)) parts at (at_of bytes) part (shared_bytes bytes) answer whole (shared_ordered (holder_in bytes == 1)) e (f ∙ ap (λ (ps : List Part). gathered ps bytes) whole) found
    (λ x k n. only x k.0 k.1 n) rule invalid))) where
      Broken : Type 0
      Broken = resets_of bytes < seen_resets bytes

      whole : parts ≡ shared_parts (holder_in bytes == 1)
      whole = g ∙ ap shared_parts h

-- what a reader of the board says, by its region
record SharedSays (recording : Recorded) (at : ℕ) (part : List ℕ) (answer : Result Board Unspell) (pal : Bool) : Type 0 where
  found : IfOk answer (SharedKept recording pal at part)
  only : (b : Board) → shared.Spells at pal part b → b.recording ≡ recording → answer ≢ failed NoMemory → answer ≡ Ok b
  rule : (p : ℕ) → answer ≡ failed (Rule p) → shared.InvalidAt at pal part p
  invalid : (p : ℕ) → shared.InvalidAt at pal part p → answer ≢ failed NoMemory → answer ≡ failed (Rule p)

pub shared_read : (recording : Recorded) (bytes : List ℕ) (pal : Bool) (at : ℕ) (parts : List Part) (part : List ℕ) (has : Bool) (seen resets : ℕ) (answer board read : Result Board Unspell) → board ≡ placed parts answer → read ≡ with_rule board (leb seen resets) resets_place → has ≡ (holder_in bytes == 1) → seen ≡ seen_resets bytes → resets ≡ resets_of bytes → at ≡ at_of bytes → pal ≡ region_of bytes → parts ≡ shared_parts has → part ≡ gathered parts bytes → IfOk answer (SharedKept recording pal at part) → ((b : Board) → shared.Spells at pal part b → b.recording ≡ recording → answer ≢ failed NoMemory → answer ≡ Ok b) → ((p : ℕ) → answer ≡ failed (Rule p) → shared.InvalidAt at pal part p) → ((p : ℕ) → shared.InvalidAt at pal part p → answer ≢ failed NoMemory → answer ≡ failed (Rule p)) → Reads (IsShared recording bytes) (SharedFails bytes) read
shared_read recording bytes pal at parts part has seen resets answer board read r s h a b e region g f found only rule invalid =
    let says : SharedSays recording at part answer (region_of bytes) =
    subst (SharedSays recording at part answer) region (record { found = found; only = only; rule = rule; invalid = invalid }) in
    shared_read_in recording bytes at parts part has seen resets answer board read r s h a b e g f says.found says.only says.rule says.invalid

-- ---- the VDP renderer

renderer_state_read_in : (bytes : List ℕ) (at : ℕ) (part : List ℕ) (answer read : Result RendererState Unspell) → read ≡ placed (renderer_state_part ∷ []) answer → at ≡ at_of bytes → part ≡ renderer_state_bytes bytes → IfOk answer (renderer_state.Spells at (region_of bytes) part) → ((d : RendererState) → renderer_state.Spells at (region_of bytes) part d → answer ≢ failed NoMemory → answer ≡ Ok d) → ((p : ℕ) → answer ≡ failed (Rule p) → renderer_state.InvalidAt at (region_of bytes) part p) → ((p : ℕ) → renderer_state.InvalidAt at (region_of bytes) part p → answer ≡ failed (Rule p)) → Reads (IsPicture bytes) (RendererStateFails bytes) read
renderer_state_read_in bytes at part answer read r e f found only rule invalid =
    subst (Reads (IsPicture bytes) (RendererStateFails bytes)) (sym r) (
    item (λ (n : ℕ). renderer_state.Spells n (region_of bytes)) (λ (n : ℕ). renderer_state.InvalidAt n (region_of bytes)) (renderer_state_part ∷ []) (renderer_state_part ∷ []) at (at_of bytes) part (renderer_state_bytes bytes) answer refl refl e f found only rule (λ p h n. invalid p h))

-- what a reader of the renderer says, by its region
record RendererStateSays (at : ℕ) (part : List ℕ) (answer : Result RendererState Unspell) (pal : Bool) : Type 0 where
  found : IfOk answer (renderer_state.Spells at pal part)
  only : (d : RendererState) → renderer_state.Spells at pal part d → answer ≢ failed NoMemory → answer ≡ Ok d
  rule : (p : ℕ) → answer ≡ failed (Rule p) → renderer_state.InvalidAt at pal part p
  invalid : (p : ℕ) → renderer_state.InvalidAt at pal part p → answer ≡ failed (Rule p)

pub renderer_state_read : (bytes : List ℕ) (pal : Bool) (at : ℕ) (part : List ℕ) (answer read : Result RendererState Unspell) → read ≡ placed (renderer_state_part ∷ []) answer → at ≡ at_of bytes → pal ≡ region_of bytes → part ≡ renderer_state_bytes bytes → IfOk answer (renderer_state.Spells at pal part) → ((d : RendererState) → renderer_state.Spells at pal part d → answer ≢ failed NoMemory → answer ≡ Ok d) → ((p : ℕ) → answer ≡ failed (Rule p) → renderer_state.InvalidAt at pal part p) → ((p : ℕ) → renderer_state.InvalidAt at pal part p → answer ≡ failed (Rule p)) → Reads (IsPicture bytes) (RendererStateFails bytes) read
renderer_state_read bytes pal at part answer read r e region f found only rule invalid =
    let says : RendererStateSays at part answer (region_of bytes) = subst (RendererStateSays at part answer) region (record { found = found; only = only; rule = rule; invalid = invalid }) in
    renderer_state_read_in bytes at part answer read r e f says.found says.only says.rule says.invalid

-- ---- the sound chips

pub fm_read : (bytes : List ℕ) (at : ℕ) (part : List ℕ) (next batch : ℕ) (early : Bool) (answer synth timed read : Result fm_synths.Synth Unspell) → synth ≡ placed (fm_part ∷ []) answer → timed ≡ with_rule synth (eqb next batch) fm_next_part.place → read ≡ with_rule timed early fm_writes_place → at ≡ at_of bytes → part ≡ part_of fm_part bytes → next ≡ number_at w64 fm_next_part.place bytes → batch ≡ first_batch at → (early ≡ false → HasLateFm bytes) → (HasLateFm bytes → early ≡ false) → IfOk answer (fm.SpellsSynth part) → ((s : fm_synths.Synth) → fm.SpellsSynth part s → answer ≡ Ok s) → ((p : ℕ) → answer ≡ failed (Rule p) → fm.SynthInvalidAt part p) → ((p : ℕ) → fm.SynthInvalidAt part p → answer ≡ failed (Rule p)) → Reads (IsFm bytes) (FmFails bytes) read
fm_read bytes at part next batch early answer synth timed read r s t e f n b late reported found only rule invalid =
    subst (Reads (IsFm bytes) (FmFails bytes)) (sym (t ∙ ap (λ (x : Result fm_synths.Synth Unspell). with_rule x early fm_writes_place) (s ∙ ap (λ (x : Result fm_synths.Synth Unspell). with_rule x (eqb next batch) fm_next_part.place) r))) (
    said (Ruled (Ruled (fm.SpellsSynth (part_of fm_part bytes)) Broken) (HasLateFm bytes)) (IsFm bytes)
    (Either (Either (FailsIn (fm_part ∷ []) (fm.SynthInvalidAt (part_of fm_part bytes))) (Breaks fm_next_part.place Broken)) (Breaks fm_writes_place (HasLateFm bytes))) (FmFails bytes)
    (with_rule (with_rule (placed (fm_part ∷ []) answer) (eqb next batch) fm_next_part.place) early fm_writes_place)
    (λ x k. record { spells = k.0.0; next = equal (number_at w64 fm_next_part.place bytes) (first_batch (at_of bytes)) k.0.1; writes = k.1 })
    (λ x k. ((k.spells, λ q. q k.next), k.writes))
    (λ p w. elim w [ inl q ↦ (elim q [ inl u ↦ synth_fails u | inr u ↦ next_fails u.0 u.1 ]) | inr q ↦ writes_fail q.0 q.1 ])
    (λ p w. elim w [ synth_fails q ↦ inl (inl q) | next_fails q u ↦ inl (inr (q, u)) | writes_fail q u ↦ inr (q, u) ])
    (reads_ruled (Ruled (fm.SpellsSynth (part_of fm_part bytes)) Broken) (Either (FailsIn (fm_part ∷ []) (fm.SynthInvalidAt (part_of fm_part bytes))) (Breaks fm_next_part.place Broken)) (with_rule (placed (fm_part ∷ []) answer) (eqb next batch) fm_next_part.place) early fm_writes_place (HasLateFm bytes) late reported
    (reads_ruled (fm.SpellsSynth (part_of fm_part bytes)) (FailsIn (fm_part ∷ []) (fm.SynthInvalidAt (part_of fm_part bytes))) (placed (fm_part ∷ []) answer) (eqb next batch) fm_next_part.place Broken
    (λ q u. eqb-false next batch q (n ∙ u ∙ sym there)) (λ q. ne_eqb next batch (λ u. q (sym n ∙ u ∙ there)))
    (item (λ a. fm.SpellsSynth) (λ a. fm.SynthInvalidAt) (fm_part ∷ []) (fm_part ∷ []) at (at_of bytes) part (part_of fm_part bytes) answer refl refl e f found (λ x k m. only x k) rule (λ p h m. invalid p h))))) where
      Broken : Type 0
      Broken = number_at w64 fm_next_part.place bytes ≢ first_batch (at_of bytes)

      there : batch ≡ first_batch (at_of bytes)
      there = b ∙ ap first_batch e

pub psg_read : (bytes : List ℕ) (at : ℕ) (part : List ℕ) (next batch : ℕ) (early : Bool) (answer synth timed read : Result psg_synths.Synth Unspell) → synth ≡ placed (psg_part ∷ []) answer → timed ≡ with_rule synth (eqb next batch) psg_next_part.place → read ≡ with_rule timed early psg_port_part.place → at ≡ at_of bytes → part ≡ part_of psg_part bytes → next ≡ number_at w64 psg_next_part.place bytes → batch ≡ first_batch at → (early ≡ false → HasLatePsg bytes) → (HasLatePsg bytes → early ≡ false) → IfOk answer (psg.SpellsSynth part) → ((s : psg_synths.Synth) → psg.SpellsSynth part s → answer ≡ Ok s) → ((p : ℕ) → answer ≡ failed (Rule p) → psg.SynthInvalidAt part p) → ((p : ℕ) → psg.SynthInvalidAt part p → answer ≡ failed (Rule p)) → Reads (IsPsg bytes) (PsgFails bytes) read
psg_read bytes at part next batch early answer synth timed read r s t e f n b late reported found only rule invalid =
    subst (Reads (IsPsg bytes) (PsgFails bytes)) (sym (t ∙ ap (λ (x : Result psg_synths.Synth Unspell). with_rule x early psg_port_part.place) (s ∙ ap (λ (x : Result psg_synths.Synth Unspell). with_rule x (eqb next batch) psg_next_part.place) r))) (
    said (Ruled (Ruled (psg.SpellsSynth (part_of psg_part bytes)) Broken) (HasLatePsg bytes)) (IsPsg bytes)
    (Either (Either (FailsIn (psg_part ∷ []) (psg.SynthInvalidAt (part_of psg_part bytes))) (Breaks psg_next_part.place Broken)) (Breaks psg_port_part.place (HasLatePsg bytes))) (PsgFails bytes)
    (with_rule (with_rule (placed (psg_part ∷ []) answer) (eqb next batch) psg_next_part.place) early psg_port_part.place)
    (λ x k. record { spells = k.0.0; next = equal (number_at w64 psg_next_part.place bytes) (first_batch (at_of bytes)) k.0.1; writes = k.1 })
    (λ x k. ((k.spells, λ q. q k.next), k.writes))
    (λ p w. elim w [ inl q ↦ (elim q [ inl u ↦ psg_synth_fails u | inr u ↦ psg_next_fails u.0 u.1 ]) | inr q ↦ psg_writes_fail q.0 q.1 ])
    (λ p w. elim w [ psg_synth_fails q ↦ inl (inl q) | psg_next_fails q u ↦ inl (inr (q, u)) | psg_writes_fail q u ↦ inr (q, u) ])
    (reads_ruled (Ruled (psg.SpellsSynth (part_of psg_part bytes)) Broken) (Either (FailsIn (psg_part ∷ []) (psg.SynthInvalidAt (part_of psg_part bytes))) (Breaks psg_next_part.place Broken)) (with_rule (placed (psg_part ∷ []) answer) (eqb next batch) psg_next_part.place) early psg_port_part.place (HasLatePsg bytes) late reported
    (reads_ruled (psg.SpellsSynth (part_of psg_part bytes)) (FailsIn (psg_part ∷ []) (psg.SynthInvalidAt (part_of psg_part bytes))) (placed (psg_part ∷ []) answer) (eqb next batch) psg_next_part.place Broken
    (λ q u. eqb-false next batch q (n ∙ u ∙ sym there)) (λ q. ne_eqb next batch (λ u. q (sym n ∙ u ∙ there)))
    (item (λ a. psg.SpellsSynth) (λ a. psg.SynthInvalidAt) (psg_part ∷ []) (psg_part ∷ []) at (at_of bytes) part (part_of psg_part bytes) answer refl refl e f found (λ x k m. only x k) rule (λ p h m. invalid p h))))) where
      Broken : Type 0
      Broken = number_at w64 psg_next_part.place bytes ≢ first_batch (at_of bytes)

      there : batch ≡ first_batch (at_of bytes)
      there = b ∙ ap first_batch e

-- ---- the writes that the ports hold

pub fm_is_late : (bytes : List ℕ) (at : ℕ) (part : List ℕ) (port : Port) (main sub : ℕ) (early : Bool) → at ≡ at_of bytes → part ≡ part_of fm_port_part bytes → main ≡ main_next bytes → sub ≡ sub_next bytes → early ≡ are_fm_early main sub port → fm_port.SpellsPort at part port → early ≡ false → HasLateFm bytes
fm_is_late bytes at part port main sub early e f m s t p late = record {
  port = port;
  spells = subst (λ (l : List ℕ). fm_port.SpellsPort (at_of bytes) l port) f (subst (λ (a : ℕ). fm_port.SpellsPort a part port) e p);
  late = (λ i. are_fm_early (sym m i) (sym s i) port) ∙ sym t ∙ late;
}

pub fm_reported : (bytes : List ℕ) (at : ℕ) (part : List ℕ) (port : Port) (main sub : ℕ) (early : Bool) → at ≡ at_of bytes → part ≡ part_of fm_port_part bytes → main ≡ main_next bytes → sub ≡ sub_next bytes → early ≡ are_fm_early main sub port → fm_port.SpellsPort at part port → HasLateFm bytes → early ≡ false
fm_reported bytes at part port main sub early e f m s t p h =
    let there = subst (λ (l : List ℕ). fm_port.SpellsPort (at_of bytes) l port) f (subst (λ (a : ℕ). fm_port.SpellsPort a part port) e p) in
    t ∙ (λ i. are_fm_early (m i) (s i) (fm_once (at_of bytes) (part_of fm_port_part bytes) port h.port there h.spells i)) ∙ h.late

pub fm_none : (bytes : List ℕ) (at : ℕ) (part : List ℕ) (answer : Result (Unit {0}) Unspell) (fault : Unspell) → at ≡ at_of bytes → part ≡ part_of fm_port_part bytes → answer ≡ failed fault → ((port : Port) → fm_port.SpellsPort at part port → answer ≡ Ok tt) → HasLateFm bytes → true ≡ false
fm_none bytes at part answer fault e f r only h =
    let there = subst (λ (l : List ℕ). fm_port.SpellsPort at l h.port) (sym f) (subst (λ (a : ℕ). fm_port.SpellsPort a (part_of fm_port_part bytes) h.port) (sym e) h.spells) in
    let ok : answer ≡ Ok tt = only h.port there in
    absurd cc

pub psg_is_late : (bytes : List ℕ) (at : ℕ) (part : List ℕ) (port : List PsgWrite) (main sub : ℕ) (early : Bool) → at ≡ at_of bytes → part ≡ part_of psg_port_part bytes → main ≡ main_next bytes → sub ≡ sub_next bytes → early ≡ are_psg_early main sub port → psg_port.SpellsPort at part port → early ≡ false → HasLatePsg bytes
psg_is_late bytes at part port main sub early e f m s t p late = record {
  port = port;
  spells = subst (λ (l : List ℕ). psg_port.SpellsPort (at_of bytes) l port) f (subst (λ (a : ℕ). psg_port.SpellsPort a part port) e p);
  late = (λ i. are_psg_early (sym m i) (sym s i) port) ∙ sym t ∙ late;
}

pub psg_reported : (bytes : List ℕ) (at : ℕ) (part : List ℕ) (port : List PsgWrite) (main sub : ℕ) (early : Bool) → at ≡ at_of bytes → part ≡ part_of psg_port_part bytes → main ≡ main_next bytes → sub ≡ sub_next bytes → early ≡ are_psg_early main sub port → psg_port.SpellsPort at part port → HasLatePsg bytes → early ≡ false
psg_reported bytes at part port main sub early e f m s t p h =
    let there = subst (λ (l : List ℕ). psg_port.SpellsPort (at_of bytes) l port) f (subst (λ (a : ℕ). psg_port.SpellsPort a part port) e p) in
    t ∙ (λ i. are_psg_early (m i) (s i) (psg_once (at_of bytes) (part_of psg_port_part bytes) port h.port there h.spells i)) ∙ h.late

pub psg_none : (bytes : List ℕ) (at : ℕ) (part : List ℕ) (answer : Result (Unit {0}) Unspell) (fault : Unspell) → at ≡ at_of bytes → part ≡ part_of psg_port_part bytes → answer ≡ failed fault → ((port : List PsgWrite) → psg_port.SpellsPort at part port → answer ≡ Ok tt) → HasLatePsg bytes → true ≡ false
psg_none bytes at part answer fault e f r only h =
    let there = subst (λ (l : List ℕ). psg_port.SpellsPort at l h.port) (sym f) (subst (λ (a : ℕ). psg_port.SpellsPort a (part_of psg_port_part bytes) h.port) (sym e) h.spells) in
    let ok : answer ≡ Ok tt = only h.port there in
    absurd cc

-- a port holds as many writes as its bytes count
fm_counted : (at : ℕ) (part : List ℕ) (port : Port) → fm_port.SpellsPort at part port → length port.writes ≡ number_at w16 26 part
unfolding Stand
fm_counted at part port p = (spelled_stand (fm_port.port_fields at (fm_port.saved_port_of port)) part p.keeps.within (sym p.keeps.all)).1.1.1.1.1.1.1.1.1.1.1.1.0

psg_counted : (at : ℕ) (part : List ℕ) (port : List PsgWrite) → psg_port.SpellsPort at part port → length port ≡ number_at w16 0 part
unfolding Stand
psg_counted at part port p = (spelled_stand (psg_port.port_fields at (psg_port.saved_port_of port)) part p.keeps.within (sym p.keeps.all)).0

-- no write is late where there is none
no_fm_late : (main sub : ℕ) (port : Port) → length port.writes ≡ 0 → are_fm_early main sub port ≡ true
no_fm_late main sub port few = by port.writes few where
  by : (writes : List FmWrite) → length writes ≡ 0 → list_all (λ (w : FmWrite). is_before_next main sub w.key) writes ≡ true
  by [] e = refl
  by (w ∷ ws) e = absurd (omega (arith, e))

no_psg_late : (main sub : ℕ) (port : List PsgWrite) → length port ≡ 0 → are_psg_early main sub port ≡ true
no_psg_late main sub [] e = refl
no_psg_late main sub (w ∷ ws) e = absurd (omega (arith, e))

pub fm_few : (bytes : List ℕ) (at : ℕ) (part : List ℕ) (count : ℕ) → at ≡ at_of bytes → part ≡ part_of fm_port_part bytes → count ≡ number_at w16 26 part → count ≡ 0 → HasLateFm bytes → true ≡ false
fm_few bytes at part count e f n none h =
    let spelled = subst (λ (l : List ℕ). fm_port.SpellsPort (at_of bytes) l h.port) (sym f) h.spells in
    sym (no_fm_late (main_next bytes) (sub_next bytes) h.port (fm_counted (at_of bytes) part h.port spelled ∙ sym n ∙ none)) ∙ h.late

pub psg_few : (bytes : List ℕ) (at : ℕ) (part : List ℕ) (count : ℕ) → at ≡ at_of bytes → part ≡ part_of psg_port_part bytes → count ≡ number_at w16 0 part → count ≡ 0 → HasLatePsg bytes → true ≡ false
psg_few bytes at part count e f n none h =
    let spelled = subst (λ (l : List ℕ). psg_port.SpellsPort (at_of bytes) l h.port) (sym f) h.spells in
    sym (no_psg_late (main_next bytes) (sub_next bytes) h.port (psg_counted (at_of bytes) part h.port spelled ∙ sym n ∙ none)) ∙ h.late
