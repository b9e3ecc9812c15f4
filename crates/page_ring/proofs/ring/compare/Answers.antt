use Rattle.std.proofs.Common.{◌≡◌, ℕ, suc, ◌+◌, ◌<◌, not, cond, inl, inr, length, set, sym, ap, ◌∙◌, arith}
use Rattle.std.specs.Prelude.{bytes_eq}
use Rattle.std.proofs.lemmas.List.{length-set}
use Rattle.std.proofs.lemmas.Slice.Eq.{bytes_eq-Decides}
use Rattle.std.proofs.lemmas.Bool.{cases_Bool, true≢false}
use Rattle.page_ring.specs.Kept.{page_at}
use Rattle.page_ring.specs.Shelves.{bytes_of}
use Rattle.page_ring.specs.Rings.{trues}
use Rattle.page_ring.proofs.Bytes.{page_at-bytes_of}
use Rattle.page_ring.proofs.Rings.{trues-le, trues-next, changes-next}
use Rattle.page_ring.proofs.ring.compare.Goals as goal
use Rattle.page_ring.proofs.ring.compare.Goals.{then-is_changed, else-is_changed}

pub overflow_add-count : goal.overflow_add-count
overflow_add-count c = omega (arith, c.loop-place.invariant.counted, trues-le c.loop-place.place c.loop-place.changed, c.requires.sizes.0, c.loop-place-test.true)

pub loop-place-preserved : goal.loop-place-preserved
loop-place-preserved c =
    let p = c.loop-place.place in let tests = c.loop-place.changed in let b = c.differ-is_changed.result in
    let within : p < length tests = omega (arith, c.loop-place.invariant.long, c.requires.sizes.0, c.loop-place-test.true) in
    let at : p + 1 ≡ suc p = omega arith in
    let next : trues (p + 1) (set tests p b) ≡ c.loop-place.count + cond b 1 0 = ap (λ n. trues n (set tests p b)) at ∙ trues-next p tests b within ∙ ap (λ n. n + cond b 1 0) (sym c.loop-place.invariant.counted) in
    let mine : c.page_of_state.result.now ≡ page_at c.args.state.now p = c.page_of_state.ensures in
    let there : c.bytes.result.now ≡ page_at (bytes_of c.args.shelf.now.items) p = c.bytes.ensures ∙ sym (page_at-bytes_of c.args.shelf.now.items p c.requires.whole (omega (arith, c.requires.sizes.1, c.loop-place-test.true))) in
    let reported : b ≡ not (bytes_eq c.page_of_state.result.now c.bytes.result.now) = c.differ-is_changed.ensures in
    record {
      long = length-set tests p b ∙ c.loop-place.invariant.long;
      counted = elim c.if-is_changed.branch [
        | then-is_changed w ↦ omega (arith, w.count-is, next, ap {B = ℕ} (λ t. cond t 1 0) w.if-is_changed.true)
        | else-is_changed w ↦ omega (arith, w.count-is, next, ap {B = ℕ} (λ t. cond t 1 0) w.if-is_changed.false)
      ];
      changes = λ i lt. changes-next p c.args.state.now (bytes_of c.args.shelf.now.items) tests b within c.loop-place.invariant.changes
          (λ f. elim (cases_Bool (bytes_eq c.page_of_state.result.now c.bytes.result.now)) [
            | inl t ↦ sym mine ∙ (bytes_eq-Decides c.page_of_state.result.now c.bytes.result.now).0 t ∙ there
            | inr other ↦ absurd (true≢false (sym (reported ∙ ap not other) ∙ f))
          ])
          (λ t e. true≢false (sym t ∙ reported ∙ ap not ((bytes_eq-Decides c.page_of_state.result.now c.bytes.result.now).1 (mine ∙ e ∙ sym there))))
          i (omega (arith, lt));
    }
