use Rattle.asm_laws.proofs.MainChosen as main
use Rattle.asm_laws.proofs.SubChosen as sub
use Rattle.asm_laws.proofs.laws.codes_are_chosen.Goals as goal

pub returns : goal.returns
returns c = record { main = main.least; main_none = main.none; sub = sub.chosen; sub_none = sub.none }
