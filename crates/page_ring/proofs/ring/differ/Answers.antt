use Rattle.std.proofs.Common.{rules, ◌≡◌, ℕ, ◌<◌, List, Bool, not, length, get_or, bytes_eq, ap, ◌∙◌, sym, arith}
use Rattle.std.specs.Bool.{Decides}
use Rattle.std.proofs.lemmas.Slice.Eq.{bytes_eq-Decides}
use Rattle.std.proofs.lemmas.Grind.{same_number_lists}
use Rattle.page_ring.proofs.ring.differ.Goals as goal

reported : (xs ys : List ℕ) (r : Bool) → Decides r (xs ≡ ys) → r ≡ bytes_eq xs ys
reported xs ys r h = search (rules, bytes_eq-Decides)

pub returns : goal.returns
returns c =
    let a = c.args.a.now in let b = c.args.b.now in
    let long : length a ≡ length b = c.told-a ∙ sym c.told-b in
    let all : (k : ℕ) → k < length a → k < c.loop-index.index = λ k lt. omega arith in
    ap not (reported a b c.loop-index.is_same (λ t. same_number_lists a b long (λ k lt. c.loop-index.invariant.same t k (all k lt)), λ e. c.loop-index.invariant.other (λ k lt. ap (λ l. get_or l k 0) e)))
