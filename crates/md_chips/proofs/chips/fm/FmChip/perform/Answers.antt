use Rattle.std.proofs.Common.{◌≤◌, List, [], length, Option, ap, sym, subst}
use Rattle.std.specs.Prelude.{unwrap_or}
use Rattle.bus_shared.proofs.Keeps.{fm_taken-few}
use Rattle.bus_shared.specs.Accesses.{carried}
use Rattle.fm_port.specs.Port.{taken_below}
use Rattle.fm_port.specs.declared.write.FmWrite.{FmWrite}
use Rattle.md_chips.proofs.Handed.{some_by}
use Rattle.md_chips.proofs.chips.fm.FmChip.perform.Goals as goal

pub invariant_of-self : goal.invariant_of-self
unfolding carried
invariant_of-self c =
    let writes : List FmWrite = taken_below c.next.result.key.cycle c.args.shared.now.fm.writes in
    let list = c.fm_list.ensures writes c.carry_out-answer.ensures.answer in (
      some_by _ c.fm_list.result writes list,
      record {
        taken =
            subst (λ (l : List FmWrite). length l ≤ 1024) (sym (ap (λ (o : Option (List FmWrite)). unwrap_or o []) list))
            (fm_taken-few c.next.result.key.cycle c.args.shared.now.fm.writes c.known.ensures.fm);
        samples = c.self.invariant.1.samples;
      },
    )
