use Rattle.std.proofs.Common.{ℕ, ◌≡◌, ◌+◌, List, drop, ap, ◌∙◌}
use Rattle.std.proofs.lemmas.List.{drop-drop}
use Rattle.md_debug.proofs.kept_states.KeptStates.drop_newest.Goals as goal

one_more : {A : Type 0} (n : ℕ) (all before after : List A) → before ≡ drop n all → after ≡ drop 1 before → after ≡ drop (n + 1) all
one_more n all before after so_far next = next ∙ ap (drop 1) so_far ∙ drop-drop 1 n all

pub loop-dropped-preserved : goal.loop-dropped-preserved
loop-dropped-preserved c =
    let i = c.loop-dropped.invariant in (
      one_more c.loop-dropped.dropped c.self.inside.ring.states _ _ i.0 c.drop_newest.ensures.states,
      one_more c.loop-dropped.dropped c.self.inside.cycles.items _ _ i.1 c.pop_front.ensures.rest,
      c.drop_newest.ensures.sizes.0 ∙ i.2,
      c.drop_newest.ensures.sizes.1 ∙ i.3,
      c.pop_front.ensures.capacity ∙ i.4,
      i.5,
    )
