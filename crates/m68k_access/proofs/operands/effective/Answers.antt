use Rattle.std.proofs.Common.{◌∙◌, ap}
use Rattle.m68k_access.proofs.Touches.{named, named_by}
use Rattle.m68k_access.proofs.operands.effective.Goals as goal

pub returns-in-Memory : goal.returns-in-Memory
returns-in-Memory c =
    ap named_by c.in-Memory.ensures.place ∙ named c.args.mode c.args.size c.args.regs.now c.args.pc

pub returns-in-Odd : goal.returns-in-Odd
returns-in-Odd c =
    ap named_by c.in-Odd.ensures.place ∙ named c.args.mode c.args.size c.args.regs.now c.args.pc

pub returns-in-Register : goal.returns-in-Register
returns-in-Register c =
    ap named_by c.in-Register.ensures.place ∙ named c.args.mode c.args.size c.args.regs.now c.args.pc

pub returns-in-Immediate : goal.returns-in-Immediate
returns-in-Immediate c =
    ap named_by c.in-Immediate.ensures.place ∙ named c.args.mode c.args.size c.args.regs.now c.args.pc
