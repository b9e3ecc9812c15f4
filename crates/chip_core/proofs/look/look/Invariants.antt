use Rattle.std.proofs.Common.{◌≡◌, slice_index_or}
use Rattle.chip_core.specs.Cores.{no_key}
use Rattle.chip_core.specs.Looks.{least_lagging}
use Rattle.chip_core.specs.Machines.{least_below}
use Rattle.chip_core.proofs.look.look.Given as goal

-- what is found of the chips so far
abbrev pub invariant-loop-i : goal.invariant-loop-i
invariant-loop-i g l = record {
  lagging : l.lagging ≡ least_lagging (λ i. slice_index_or l.bounds i no_key) (λ i. (g.C.ChipSet.rules.next (slice_index_or l.chips i g.C.ChipSet.rules.blank)).key) l.i;
  least : l.least ≡ g.C.ChipSet.rules.next (slice_index_or l.chips (least_below (λ i. (g.C.ChipSet.rules.next (slice_index_or l.chips i g.C.ChipSet.rules.blank)).key) l.i) g.C.ChipSet.rules.blank);
}
