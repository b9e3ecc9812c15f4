-- The table with its patterns as numbers: mask and fixed bits. What is computed over all words
-- reads these.
use Rattle.std.proofs.Common.{List, [], ◌∷◌, ◌≡◌, refl}
use Rattle.md_word.specs.declared.task.Task.TheVariants as tasks
use Rattle.md_word.specs.declared.size.Size.TheVariants.{Byte, Word, Long}
use Rattle.md_word.specs.Patterns.{all}
use Rattle.m68k_decode.specs.Rows.{Immediate, CompareImmediate, ImmediateToCcr, ImmediateToSr, BitByRegister, BitByNumber, MovepToRegister, MovepToMemory, Move, Movea, Unary, MoveFromSr, MoveToCcr, MoveToSr, Nbcd, Swap, Ext, Pea, MovemToMemory, MovemToRegisters, Tst, Tas, Illegal, Trap, Link, Unlk, MoveToUsp, MoveFromUsp, Reset, Nop, Stop, Rte, Rts, Trapv, Rtr, Jsr, Jmp, Lea, Chk, Quick, Scc, Dbcc, Bra, Bsr, Bcc, Moveq, Divu, Divs, Decimal, Extended, ToRegister, ToMemory, ToAddress, Cmp, Cmpa, Eor, Cmpm, Mulu, Muls, ExgData, ExgAddress, ExgMixed, ShiftByNumber, ShiftByRegister, ShiftMemory}
use Rattle.m68k_decode.specs.Addressing.{any, data_mode, control, alterable, data_alterable, memory_alterable, data_but_immediate, control_alterable_or_predecrement, control_or_postincrement}
use Rattle.m68k_decode.specs.Lines.{TableLine, sized, on, sized_on, words_on, moved_to, byte_moved_to, conditional, lines_0, lines_1, lines_2, lines_3, lines_4, lines_5, lines_6, lines_7, lines_8, lines_9, lines_b, lines_c, lines_d, lines_e}

unfoldable pub masks_0 : List TableLine
masks_0 =
    record { mask = 0xff00; bits = 0x0000; allowed = (sized_on data_alterable); row = (Immediate tasks.Or) } ∷
    record { mask = 0xff00; bits = 0x0200; allowed = (sized_on data_alterable); row = (Immediate tasks.And) } ∷
    record { mask = 0xff00; bits = 0x0400; allowed = (sized_on data_alterable); row = (Immediate tasks.Sub) } ∷
    record { mask = 0xff00; bits = 0x0600; allowed = (sized_on data_alterable); row = (Immediate tasks.Add) } ∷
    record { mask = 0xff00; bits = 0x0a00; allowed = (sized_on data_alterable); row = (Immediate tasks.Eor) } ∷
    record { mask = 0xff00; bits = 0x0c00; allowed = (sized_on data_alterable); row = CompareImmediate } ∷
    record { mask = 0xffff; bits = 0x003c; allowed = all; row = (ImmediateToCcr tasks.Or) } ∷
    record { mask = 0xffff; bits = 0x023c; allowed = all; row = (ImmediateToCcr tasks.And) } ∷
    record { mask = 0xffff; bits = 0x0a3c; allowed = all; row = (ImmediateToCcr tasks.Eor) } ∷
    record { mask = 0xffff; bits = 0x007c; allowed = all; row = (ImmediateToSr tasks.Or) } ∷
    record { mask = 0xffff; bits = 0x027c; allowed = all; row = (ImmediateToSr tasks.And) } ∷
    record { mask = 0xffff; bits = 0x0a7c; allowed = all; row = (ImmediateToSr tasks.Eor) } ∷
    record { mask = 0xf1c0; bits = 0x0100; allowed = (on data_mode); row = (BitByRegister tasks.Btst) } ∷
    record { mask = 0xf1c0; bits = 0x0140; allowed = (on data_alterable); row = (BitByRegister tasks.Bchg) } ∷
    record { mask = 0xf1c0; bits = 0x0180; allowed = (on data_alterable); row = (BitByRegister tasks.Bclr) } ∷
    record { mask = 0xf1c0; bits = 0x01c0; allowed = (on data_alterable); row = (BitByRegister tasks.Bset) } ∷
    record { mask = 0xffc0; bits = 0x0800; allowed = (on data_but_immediate); row = (BitByNumber tasks.Btst) } ∷
    record { mask = 0xffc0; bits = 0x0840; allowed = (on data_alterable); row = (BitByNumber tasks.Bchg) } ∷
    record { mask = 0xffc0; bits = 0x0880; allowed = (on data_alterable); row = (BitByNumber tasks.Bclr) } ∷
    record { mask = 0xffc0; bits = 0x08c0; allowed = (on data_alterable); row = (BitByNumber tasks.Bset) } ∷
    record { mask = 0xf1b8; bits = 0x0108; allowed = all; row = MovepToRegister } ∷
    record { mask = 0xf1b8; bits = 0x0188; allowed = all; row = MovepToMemory } ∷
    []

pub lines_0-masks : lines_0 ≡ masks_0
unfolding lines_0 masks_0
lines_0-masks = refl

unfoldable pub masks_1 : List TableLine
masks_1 =
    record { mask = 0xf000; bits = 0x1000; allowed = (byte_moved_to data_alterable); row = (Move Byte) } ∷
    []

pub lines_1-masks : lines_1 ≡ masks_1
unfolding lines_1 masks_1
lines_1-masks = refl

unfoldable pub masks_2 : List TableLine
masks_2 =
    record { mask = 0xf000; bits = 0x2000; allowed = (moved_to data_alterable); row = (Move Long) } ∷
    record { mask = 0xf1c0; bits = 0x2040; allowed = (on any); row = (Movea Long) } ∷
    []

pub lines_2-masks : lines_2 ≡ masks_2
unfolding lines_2 masks_2
lines_2-masks = refl

unfoldable pub masks_3 : List TableLine
masks_3 =
    record { mask = 0xf000; bits = 0x3000; allowed = (moved_to data_alterable); row = (Move Word) } ∷
    record { mask = 0xf1c0; bits = 0x3040; allowed = (on any); row = (Movea Word) } ∷
    []

pub lines_3-masks : lines_3 ≡ masks_3
unfolding lines_3 masks_3
lines_3-masks = refl

unfoldable pub masks_4 : List TableLine
masks_4 =
    record { mask = 0xff00; bits = 0x4000; allowed = (sized_on data_alterable); row = (Unary tasks.Negx) } ∷
    record { mask = 0xff00; bits = 0x4200; allowed = (sized_on data_alterable); row = (Unary tasks.Clr) } ∷
    record { mask = 0xff00; bits = 0x4400; allowed = (sized_on data_alterable); row = (Unary tasks.Neg) } ∷
    record { mask = 0xff00; bits = 0x4600; allowed = (sized_on data_alterable); row = (Unary tasks.Not) } ∷
    record { mask = 0xffc0; bits = 0x40c0; allowed = (on data_alterable); row = MoveFromSr } ∷
    record { mask = 0xffc0; bits = 0x44c0; allowed = (on data_mode); row = MoveToCcr } ∷
    record { mask = 0xffc0; bits = 0x46c0; allowed = (on data_mode); row = MoveToSr } ∷
    record { mask = 0xffc0; bits = 0x4800; allowed = (on data_alterable); row = Nbcd } ∷
    record { mask = 0xfff8; bits = 0x4840; allowed = all; row = Swap } ∷
    record { mask = 0xffb8; bits = 0x4880; allowed = all; row = Ext } ∷
    record { mask = 0xffc0; bits = 0x4840; allowed = (on control); row = Pea } ∷
    record { mask = 0xff80; bits = 0x4880; allowed = (on control_alterable_or_predecrement); row = MovemToMemory } ∷
    record { mask = 0xff80; bits = 0x4c80; allowed = (on control_or_postincrement); row = MovemToRegisters } ∷
    record { mask = 0xff00; bits = 0x4a00; allowed = (sized_on data_alterable); row = Tst } ∷
    record { mask = 0xffc0; bits = 0x4ac0; allowed = (on data_alterable); row = Tas } ∷
    record { mask = 0xffff; bits = 0x4afc; allowed = all; row = Illegal } ∷
    record { mask = 0xfff0; bits = 0x4e40; allowed = all; row = Trap } ∷
    record { mask = 0xfff8; bits = 0x4e50; allowed = all; row = Link } ∷
    record { mask = 0xfff8; bits = 0x4e58; allowed = all; row = Unlk } ∷
    record { mask = 0xfff8; bits = 0x4e60; allowed = all; row = MoveToUsp } ∷
    record { mask = 0xfff8; bits = 0x4e68; allowed = all; row = MoveFromUsp } ∷
    record { mask = 0xffff; bits = 0x4e70; allowed = all; row = Reset } ∷
    record { mask = 0xffff; bits = 0x4e71; allowed = all; row = Nop } ∷
    record { mask = 0xffff; bits = 0x4e72; allowed = all; row = Stop } ∷
    record { mask = 0xffff; bits = 0x4e73; allowed = all; row = Rte } ∷
    record { mask = 0xffff; bits = 0x4e75; allowed = all; row = Rts } ∷
    record { mask = 0xffff; bits = 0x4e76; allowed = all; row = Trapv } ∷
    record { mask = 0xffff; bits = 0x4e77; allowed = all; row = Rtr } ∷
    record { mask = 0xffc0; bits = 0x4e80; allowed = (on control); row = Jsr } ∷
    record { mask = 0xffc0; bits = 0x4ec0; allowed = (on control); row = Jmp } ∷
    record { mask = 0xf1c0; bits = 0x41c0; allowed = (on control); row = Lea } ∷
    record { mask = 0xf1c0; bits = 0x4180; allowed = (on data_mode); row = Chk } ∷
    []

pub lines_4-masks : lines_4 ≡ masks_4
unfolding lines_4 masks_4
lines_4-masks = refl

unfoldable pub masks_5 : List TableLine
masks_5 =
    record { mask = 0xf100; bits = 0x5000; allowed = (words_on alterable); row = (Quick tasks.Add) } ∷
    record { mask = 0xf100; bits = 0x5100; allowed = (words_on alterable); row = (Quick tasks.Sub) } ∷
    record { mask = 0xf0c0; bits = 0x50c0; allowed = (on data_alterable); row = Scc } ∷
    record { mask = 0xf0f8; bits = 0x50c8; allowed = all; row = Dbcc } ∷
    []

pub lines_5-masks : lines_5 ≡ masks_5
unfolding lines_5 masks_5
lines_5-masks = refl

unfoldable pub masks_6 : List TableLine
masks_6 =
    record { mask = 0xff00; bits = 0x6000; allowed = all; row = Bra } ∷
    record { mask = 0xff00; bits = 0x6100; allowed = all; row = Bsr } ∷
    record { mask = 0xf000; bits = 0x6000; allowed = conditional; row = Bcc } ∷
    []

pub lines_6-masks : lines_6 ≡ masks_6
unfolding lines_6 masks_6
lines_6-masks = refl

unfoldable pub masks_7 : List TableLine
masks_7 =
    record { mask = 0xf100; bits = 0x7000; allowed = all; row = Moveq } ∷
    []

pub lines_7-masks : lines_7 ≡ masks_7
unfolding lines_7 masks_7
lines_7-masks = refl

unfoldable pub masks_8 : List TableLine
masks_8 =
    record { mask = 0xf1c0; bits = 0x80c0; allowed = (on data_mode); row = Divu } ∷
    record { mask = 0xf1c0; bits = 0x81c0; allowed = (on data_mode); row = Divs } ∷
    record { mask = 0xf1f0; bits = 0x8100; allowed = all; row = (Decimal tasks.Sbcd) } ∷
    record { mask = 0xf100; bits = 0x8000; allowed = (sized_on data_mode); row = (ToRegister tasks.Or) } ∷
    record { mask = 0xf100; bits = 0x8100; allowed = (sized_on memory_alterable); row = (ToMemory tasks.Or) } ∷
    []

pub lines_8-masks : lines_8 ≡ masks_8
unfolding lines_8 masks_8
lines_8-masks = refl

unfoldable pub masks_9 : List TableLine
masks_9 =
    record { mask = 0xf100; bits = 0x9000; allowed = (words_on any); row = (ToRegister tasks.Sub) } ∷
    record { mask = 0xf100; bits = 0x9100; allowed = (sized_on memory_alterable); row = (ToMemory tasks.Sub) } ∷
    record { mask = 0xf0c0; bits = 0x90c0; allowed = (on any); row = (ToAddress tasks.Sub) } ∷
    record { mask = 0xf130; bits = 0x9100; allowed = sized; row = (Extended tasks.Subx) } ∷
    []

pub lines_9-masks : lines_9 ≡ masks_9
unfolding lines_9 masks_9
lines_9-masks = refl

unfoldable pub masks_b : List TableLine
masks_b =
    record { mask = 0xf100; bits = 0xb000; allowed = (words_on any); row = Cmp } ∷
    record { mask = 0xf0c0; bits = 0xb0c0; allowed = (on any); row = Cmpa } ∷
    record { mask = 0xf100; bits = 0xb100; allowed = (sized_on data_alterable); row = Eor } ∷
    record { mask = 0xf138; bits = 0xb108; allowed = sized; row = Cmpm } ∷
    []

pub lines_b-masks : lines_b ≡ masks_b
unfolding lines_b masks_b
lines_b-masks = refl

unfoldable pub masks_c : List TableLine
masks_c =
    record { mask = 0xf1c0; bits = 0xc0c0; allowed = (on data_mode); row = Mulu } ∷
    record { mask = 0xf1c0; bits = 0xc1c0; allowed = (on data_mode); row = Muls } ∷
    record { mask = 0xf1f0; bits = 0xc100; allowed = all; row = (Decimal tasks.Abcd) } ∷
    record { mask = 0xf1f8; bits = 0xc140; allowed = all; row = ExgData } ∷
    record { mask = 0xf1f8; bits = 0xc148; allowed = all; row = ExgAddress } ∷
    record { mask = 0xf1f8; bits = 0xc188; allowed = all; row = ExgMixed } ∷
    record { mask = 0xf100; bits = 0xc000; allowed = (sized_on data_mode); row = (ToRegister tasks.And) } ∷
    record { mask = 0xf100; bits = 0xc100; allowed = (sized_on memory_alterable); row = (ToMemory tasks.And) } ∷
    []

pub lines_c-masks : lines_c ≡ masks_c
unfolding lines_c masks_c
lines_c-masks = refl

unfoldable pub masks_d : List TableLine
masks_d =
    record { mask = 0xf100; bits = 0xd000; allowed = (words_on any); row = (ToRegister tasks.Add) } ∷
    record { mask = 0xf100; bits = 0xd100; allowed = (sized_on memory_alterable); row = (ToMemory tasks.Add) } ∷
    record { mask = 0xf0c0; bits = 0xd0c0; allowed = (on any); row = (ToAddress tasks.Add) } ∷
    record { mask = 0xf130; bits = 0xd100; allowed = sized; row = (Extended tasks.Addx) } ∷
    []

pub lines_d-masks : lines_d ≡ masks_d
unfolding lines_d masks_d
lines_d-masks = refl

unfoldable pub masks_e : List TableLine
masks_e =
    record { mask = 0xf020; bits = 0xe000; allowed = sized; row = ShiftByNumber } ∷
    record { mask = 0xf020; bits = 0xe020; allowed = sized; row = ShiftByRegister } ∷
    record { mask = 0xf8c0; bits = 0xe0c0; allowed = (on memory_alterable); row = ShiftMemory } ∷
    []

pub lines_e-masks : lines_e ≡ masks_e
unfolding lines_e masks_e
lines_e-masks = refl
