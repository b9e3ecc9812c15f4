use Rattle.md_asm.proofs.SubTexts as sub
use Rattle.md_asm.proofs.Texts as main
use Rattle.asm_laws.proofs.laws.codes_say_their_line.Goals as goal

pub returns : goal.returns
returns c = record { main = main.keeps_text; sub = sub.keeps_text }
