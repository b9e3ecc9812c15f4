use Rattle.std.proofs.Common.{◌≡◌, ℕ, Bool, true, List, Option, Ok, Err, ap, subst, sym, ◌∙◌, arith, refl}
use Rattle.std.specs.Prelude.{option_map}
use Rattle.std.specs.Arc.{arc_value}
use Rattle.md_fields.specs.Items.{IsRight, Keeps}
use Rattle.md_fields.specs.Places.{IsBytes}
use Rattle.md_word.specs.declared.unspell.Unspell.TheVariants.{Rule}
use Rattle.rom_header.specs.Cartridge.{IsImage}
use Rattle.z80_exec.specs.declared.sample.step.Predicted80.{Predicted80}
use Rattle.z80_parcel.specs.Parcels.{Store, store_of}
use Rattle.z80_chip.specs.Events.{Waits}
use Rattle.z80_chip.specs.Held.{WaitsFor}
use Rattle.z80_chip.specs.Rules.{HasRules}
use Rattle.z80_chip.specs.Saved.{asks_more, chip_fields, kept_of, state_from}
use Rattle.z80_chip.specs.Validity.{IsChip80}
use Rattle.z80_chip.specs.Spelling.{InvalidAt, IsRead, Spells, ram_offset, store_at}
use Rattle.z80_chip.specs.States.{State80, state_of}
use Rattle.z80_chip.specs.declared.saved.Saved80.{Saved80}
use Rattle.z80_chip.proofs.Laws.{of}
use Rattle.md_fields.proofs.Refusals.{same_rule}
use Rattle.z80_chip.proofs.RuleLaws.{rules_from}
use Rattle.z80_chip.proofs.SavedLaws.{count_few, valid}
use Rattle.z80_chip.proofs.SpellingLaws.{answers_four, breaks_ram, no_other, only_place, read_keeps, read_of, read_right, read_rules, read_store, right_not_refused, spelled_by}
use Rattle.z80_chip.proofs.Waiting.{unknown-predicted, waits-at}
use Rattle.z80_chip.proofs.chip.Chip80.unspell.Goals as goal

pub returns-in-Err-clause-only : goal.returns-in-Err-clause-only
returns-in-Err-clause-only c = λ state p n.
    absurd (right_not_refused (arc_value c.args.cart) c.args.at c.args.bytes.now (kept_of state) c.in-Err.place p.keeps p.right (c.in-Err.ensures.refused (arc_value c.args.cart)))

pub returns-in-Err-clause-refused : goal.returns-in-Err-clause-refused
returns-in-Err-clause-refused c = λ place invalid n.
    ap (λ (p : ℕ). Err (Rule p)) (only_place (arc_value c.args.cart) c.args.at c.args.bytes.now c.in-Err.place place (c.in-Err.ensures.refused (arc_value c.args.cart)) invalid)

pub parcel_at-requires-clause-nine : goal.parcel_at-requires-clause-nine
parcel_at-requires-clause-nine c = read_store c.args.at c.args.bytes.now c.in-Ok.saved c.in-Ok.ensures.found

pub asks_more-requires : goal.asks_more-requires
asks_more-requires c = omega (arith, count_few c.args.at true _ (read_rules c.args.at c.args.bytes.now c.in-Ok.saved c.in-Ok.ensures.found))

-- what the answer of `asks_more` tells
reported : (image cart bytes : List ℕ) (saved : Saved80) (store : Option Store) (asks : Bool) → image ≡ cart → store ≡ store_at bytes
    → asks ≡ asks_more image (record { numbers = saved; store = store }) → asks_more cart (read_of bytes saved) ≡ asks
reported image cart bytes saved store asks same there e =
    sym (e ∙ ap (λ (l : List ℕ). asks_more l (record { numbers = saved; store = store })) same
    ∙ ap (λ (o : Option Store). asks_more cart (record { numbers = saved; store = o })) there)

invalid_ram : (c : goal.After-drop-cart-then-not-asks_more) → InvalidAt (arc_value c.args.cart) c.args.at c.args.bytes.now ram_offset
invalid_ram c =
    breaks_ram (arc_value c.args.cart) c.args.at c.args.bytes.now c.in-Ok.saved (λ i. omega (arith, c.type_inv.bytes i)) c.in-Ok.ensures.found
    (reported c.deref-2.result.now (arc_value c.args.cart) c.args.bytes.now c.in-Ok.saved (option_map store_of c.in_ok-parcel.parcel) c.asks_more.result c.deref-2.ensures c.in_ok-parcel.ensures c.asks_more.ensures
    ∙ c.if-not-asks_more.true)

pub returns-then-not-asks_more-clause-only : goal.returns-then-not-asks_more-clause-only
returns-then-not-asks_more-clause-only c = λ state p n.
    absurd (right_not_refused (arc_value c.args.cart) c.args.at c.args.bytes.now (kept_of state) ram_offset p.keeps p.right (invalid_ram c))

pub returns-then-not-asks_more-clause-rule : goal.returns-then-not-asks_more-clause-rule
returns-then-not-asks_more-clause-rule c = λ place e.
    subst (λ (p : ℕ). InvalidAt (arc_value c.args.cart) c.args.at c.args.bytes.now p) (same_rule ram_offset place e) (invalid_ram c)

pub returns-then-not-asks_more-clause-refused : goal.returns-then-not-asks_more-clause-refused
returns-then-not-asks_more-clause-refused c = λ place invalid n.
    ap (λ (p : ℕ). Err (Rule p)) (only_place (arc_value c.args.cart) c.args.at c.args.bytes.now ram_offset place (invalid_ram c) invalid)

pub sequencer-sequencer-requires : goal.sequencer-sequencer-requires
sequencer-sequencer-requires c = omega (arith, count_few c.args.at true _ (read_rules c.args.at c.args.bytes.now c.in-Ok.saved c.in-Ok.ensures.found))

-- the Z80 that these bytes keep
valid_in : (image : List ℕ) (at : ℕ) (bytes : List ℕ) (saved : Saved80) → IsImage image → IsBytes bytes → IsRead at bytes saved → asks_more image (read_of bytes saved) ≡ true → IsChip80 (of image (state_from saved (store_at bytes)))
valid_in image at bytes saved ok fits is asks =
    valid image at (read_of bytes saved) ok (read_store at bytes saved is) (answers_four image at bytes (read_of bytes saved) (read_keeps image at bytes saved fits is)) (read_rules at bytes saved is) asks

-- it waits at an access
waits_in : (image cart : List ℕ) (state at : State80) → cart ≡ image → state ≡ at → IsChip80 (of image at) → Waits state.stage cart state
waits_in image cart state at same e valid =
    subst (λ (s : State80). Waits s.stage cart s) (sym e) (subst (λ (l : List ℕ). Waits at.stage l at) (sym same) (waits-at at.stage image at valid.stands))

pub resume-requires : goal.resume-requires
resume-requires c =
    waits_in (arc_value c.args.cart) c.deref-3.result.now _ (state_from c.in-Ok.saved (store_at c.args.bytes.now)) c.deref-3.ensures
    (c.sequencer-sequencer.ensures.state c.in_ok-parcel.parcel ∙ ap (state_from c.in-Ok.saved) c.in_ok-parcel.ensures)
    (valid_in (arc_value c.args.cart) c.args.at c.args.bytes.now c.in-Ok.saved
    (subst (λ (image : List ℕ). IsImage image) c.deref.ensures c.bytes.ensures.image) (λ i. omega (arith, c.type_inv.bytes i)) c.in-Ok.ensures.found
    (reported c.deref-2.result.now (arc_value c.args.cart) c.args.bytes.now c.in-Ok.saved (option_map store_of c.in_ok-parcel.parcel) c.asks_more.result c.deref-2.ensures c.in_ok-parcel.ensures c.asks_more.ensures
    ∙ c.if-not-asks_more.false))

-- what is made
made : (c : goal.After-new) → state_of c.resume.new.self c.in_ok-parcel.parcel ≡ state_from c.in-Ok.saved (store_at c.args.bytes.now)
made c = c.resume.ensures.state c.in_ok-parcel.parcel ∙ c.sequencer-sequencer.ensures.state c.in_ok-parcel.parcel ∙ ap (state_from c.in-Ok.saved) c.in_ok-parcel.ensures

asked_more : (c : goal.After-new) → asks_more (arc_value c.args.cart) (read_of c.args.bytes.now c.in-Ok.saved) ≡ true
asked_more c =
    reported c.deref-2.result.now (arc_value c.args.cart) c.args.bytes.now c.in-Ok.saved (option_map store_of c.in_ok-parcel.parcel) c.asks_more.result c.deref-2.ensures c.in_ok-parcel.ensures c.asks_more.ensures
    ∙ c.if-not-asks_more.false

keeps : (c : goal.After-new) → Keeps (chip_fields (arc_value c.args.cart) c.args.at) c.args.bytes.now (read_of c.args.bytes.now c.in-Ok.saved)
keeps c = read_keeps (arc_value c.args.cart) c.args.at c.args.bytes.now c.in-Ok.saved (λ i. omega (arith, c.type_inv.bytes i)) c.in-Ok.ensures.found

right : (c : goal.After-new) → IsRight (chip_fields (arc_value c.args.cart) c.args.at) (read_of c.args.bytes.now c.in-Ok.saved)
right c = read_right (arc_value c.args.cart) c.args.at c.args.bytes.now c.in-Ok.saved c.in-Ok.ensures.found (asked_more c)

pub invariant_of-result : goal.invariant_of-result
invariant_of-result c = record {
  valid = subst (λ (state : State80). IsChip80 (of (arc_value c.args.cart) state)) (sym (made c))
      (valid_in (arc_value c.args.cart) c.args.at c.args.bytes.now c.in-Ok.saved
      (subst (λ (image : List ℕ). IsImage image) c.deref.ensures c.bytes.ensures.image) (λ i. omega (arith, c.type_inv.bytes i)) c.in-Ok.ensures.found (asked_more c));
  waiting = subst (λ (image : List ℕ). WaitsFor c.resume.new.self.stage image (state_of c.resume.new.self c.in_ok-parcel.parcel) c.resume.new.self.request) c.deref-3.ensures c.resume.ensures.waiting;
  predicts = unknown-predicted _ (arc_value c.args.cart) _ c.resume.new.self.predicted (ap (λ (p : Predicted80). p.known) c.resume.ensures.predicted ∙ c.sequencer-sequencer.ensures.unknown);
}

pub returns-clause-found : goal.returns-clause-found
returns-clause-found c = (
  refl,
  subst (Spells (arc_value c.args.cart) c.args.at c.args.bytes.now) (sym (made c))
      (spelled_by (arc_value c.args.cart) c.args.at c.args.bytes.now (read_of c.args.bytes.now c.in-Ok.saved) (keeps c) (right c)),
)

pub returns-clause-recent : goal.returns-clause-recent
returns-clause-recent c =
    subst (HasRules (arc_value c.args.cart) c.args.at) (sym (made c))
    (rules_from (arc_value c.args.cart) c.args.at c.args.bytes.now _
    (spelled_by (arc_value c.args.cart) c.args.at c.args.bytes.now (read_of c.args.bytes.now c.in-Ok.saved) (keeps c) (right c)))

pub returns-clause-only : goal.returns-clause-only
returns-clause-only c = λ state p n.
    ap (λ (s : State80). Ok (of (arc_value c.args.cart) s))
    (made c ∙ no_other (arc_value c.args.cart) c.args.at c.args.bytes.now (read_of c.args.bytes.now c.in-Ok.saved) state (keeps c) p)

pub returns-clause-refused : goal.returns-clause-refused
returns-clause-refused c = λ place invalid n.
    absurd (right_not_refused (arc_value c.args.cart) c.args.at c.args.bytes.now (read_of c.args.bytes.now c.in-Ok.saved) place (keeps c) (right c) invalid)
