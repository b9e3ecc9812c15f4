use Rattle.std.proofs.Common.{◌∙◌, ◌*◌, ◌-◌, ℕ, length, refl, ap, arith}
use Rattle.sound_writes.proofs.Rest.{one_less, put_more}
use Rattle.sound_writes.proofs.saved.put_writes.Goals as goal

pub loop-rest-preserved : goal.loop-rest-preserved
loop-rest-preserved g c =
    let ws = c.loop-rest.rest.now in
    let less = one_less ws (length ws - 1) c.in-len1-up.len_at_least refl in
    record {
      bytes = put_more g.W.WriteEntry.fields g.W.WriteEntry.saved_of ws _ (length ws - 1) c.of.result _ _ c.in-len1-up.len_at_least refl (c.of.ensures ∙ ap g.W.WriteEntry.saved_of c.write-item.is) c.put.ensures.bytes ∙ c.loop-rest.invariant.bytes;
      length = omega (arith, c.put.ensures.length, c.loop-rest.invariant.length, ap (λ (n : ℕ). g.W.WriteEntry.size * n) less);
      room = omega (arith, c.put.ensures.room, c.loop-rest.invariant.room);
    }
