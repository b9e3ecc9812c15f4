use Rattle.md_asm.proofs.SubTexts as sub
use Rattle.md_asm.proofs.Texts as main
use Rattle.asm_laws.proofs.laws.texts_are_assembled.Goals as goal

pub returns : goal.returns
returns c = record { main = main.assembled_again; sub = sub.assembled_again }
