use Rattle.std.proofs.Common.{◌≤◌, List, [], length, Option, ap, sym, subst}
use Rattle.std.specs.Prelude.{unwrap_or}
use Rattle.bus_shared.specs.Accesses.{carried}
use Rattle.psg_sound.specs.Port.{taken_below}
use Rattle.psg_sound.specs.PortLaws.{taken_below-few}
use Rattle.psg_sound.specs.declared.write.PsgWrite.{PsgWrite}
use Rattle.md_chips.proofs.Handed.{some_by}
use Rattle.md_chips.proofs.chips.psg.PsgChip.perform.Goals as goal

pub invariant_of-self : goal.invariant_of-self
unfolding carried
invariant_of-self c =
    let writes : List PsgWrite = taken_below c.next.result.key.cycle c.args.shared.now.psg in
    let list = c.psg_list.ensures writes c.carry_out-answer.ensures.answer in (
      some_by _ c.psg_list.result writes list,
      record {
        synth = c.self.invariant.1.synth;
        taken =
            subst (λ (l : List PsgWrite). length l ≤ 1024) (sym (ap (λ (o : Option (List PsgWrite)). unwrap_or o []) list))
            (taken_below-few c.next.result.key.cycle c.args.shared.now.psg c.known.ensures.psg);
        samples = c.self.invariant.1.samples;
      },
    )
