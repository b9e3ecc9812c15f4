-- Words of the 68000 whose extension words hold 8 for a number decode to the instruction with 8 for it.
use Rattle.std.proofs.Common.{◌≡◌, ℕ, ◌+◌, ◌/◌, ◌%◌, Bool, true, false, List, [], ◌∷◌, ◌++◌, length, append_assoc, refl, arith, if◌then◌else◌}
use Rattle.md_word.specs.Fields.{bit_of}
use Rattle.md_word.specs.declared.mode.Mode.{Mode}
use Rattle.md_word.specs.declared.mode.Mode.TheVariants as modes
use Rattle.md_word.specs.declared.size.Size.{Size}
use Rattle.md_word.specs.declared.size.Size.TheVariants.{Byte, Word, Long}
use Rattle.m68k_decode.specs.declared.decoded.Decoded.{Decoded}
use Rattle.m68k_decode.specs.declared.op.Op.{Op}
use Rattle.m68k_decode.specs.declared.op.Op.TheVariants as ops
use Rattle.m68k_decode.specs.Fields.{high_register, low_register, size_of, word_or_long, number_at, words_of_number, words_of_mode, low_mode, high_mode, paired, quick, condition_of}
use Rattle.m68k_decode.specs.Instructions.{made}
use Rattle.m68k_decode.specs.Rows as rows
use Rattle.m68k_decode.specs.Rows.{Row}
use Rattle.asm_m68k.specs.Encoding.{extension, mode_words, number_words}
use Rattle.asm_m68k.specs.Table.{AreWords}
use Rattle.md_asm.proofs.Rows68.{mode_kept, number_kept}
use Rattle.md_asm.proofs.Words68.{high_kept, kept_counted, kept_long, low_kept, numbers_kept}
use Rattle.asm_m68k.proofs.Again.{second_word as same_word}

-- the instruction with 8 for the numbers of the operands that are not kept, where extension words hold them; the
-- displacement of a branch is left
abbrev pub op_kept : Bool → Bool → Op → Op
op_kept a b (ops.Immediate task size n mode) = ops.Immediate task size (number_kept a n) (mode_kept b mode)
op_kept a b (ops.CompareImmediate size n mode) = ops.CompareImmediate size (number_kept a n) (mode_kept b mode)
op_kept a b (ops.ImmediateToCcr task n) = ops.ImmediateToCcr task (number_kept a n)
op_kept a b (ops.ImmediateToSr task n) = ops.ImmediateToSr task (number_kept a n)
op_kept a b (ops.BitByRegister task n mode) = ops.BitByRegister task n (mode_kept b mode)
op_kept a b (ops.BitByNumber task n mode) = ops.BitByNumber task (number_kept a n) (mode_kept b mode)
op_kept a b (ops.MovepToRegister size x y d) = ops.MovepToRegister size x y (number_kept a d)
op_kept a b (ops.MovepToMemory size x y d) = ops.MovepToMemory size x y (number_kept b d)
op_kept a b (ops.Move size source target) = ops.Move size (mode_kept a source) (mode_kept b target)
op_kept a b (ops.Movea size n mode) = ops.Movea size n (mode_kept a mode)
op_kept a b (ops.Unary task size mode) = ops.Unary task size (mode_kept a mode)
op_kept a b (ops.MoveFromSr mode) = ops.MoveFromSr (mode_kept b mode)
op_kept a b (ops.MoveToCcr mode) = ops.MoveToCcr (mode_kept a mode)
op_kept a b (ops.MoveToSr mode) = ops.MoveToSr (mode_kept a mode)
op_kept a b (ops.Nbcd mode) = ops.Nbcd (mode_kept a mode)
op_kept a b (ops.Pea mode) = ops.Pea (mode_kept a mode)
op_kept a b (ops.MovemToMemory size list mode) = ops.MovemToMemory size list (mode_kept b mode)
op_kept a b (ops.MovemToRegisters size list mode) = ops.MovemToRegisters size list (mode_kept a mode)
op_kept a b (ops.Tst size mode) = ops.Tst size (mode_kept a mode)
op_kept a b (ops.Tas mode) = ops.Tas (mode_kept a mode)
op_kept a b (ops.Link r d) = ops.Link r (number_kept b d)
op_kept a b (ops.Stop n) = ops.Stop (number_kept a n)
op_kept a b (ops.Jsr mode) = ops.Jsr (mode_kept a mode)
op_kept a b (ops.Jmp mode) = ops.Jmp (mode_kept a mode)
op_kept a b (ops.Lea n mode) = ops.Lea n (mode_kept a mode)
op_kept a b (ops.Chk n mode) = ops.Chk n (mode_kept a mode)
op_kept a b (ops.Quick task size n mode) = ops.Quick task size n (mode_kept b mode)
op_kept a b (ops.Scc condition mode) = ops.Scc condition (mode_kept a mode)
op_kept a b (ops.Divu n mode) = ops.Divu n (mode_kept a mode)
op_kept a b (ops.Divs n mode) = ops.Divs n (mode_kept a mode)
op_kept a b (ops.ToRegister task size n mode) = ops.ToRegister task size n (mode_kept a mode)
op_kept a b (ops.ToMemory task size n mode) = ops.ToMemory task size n (mode_kept b mode)
op_kept a b (ops.ToAddress task size n mode) = ops.ToAddress task size n (mode_kept a mode)
op_kept a b (ops.Cmp size n mode) = ops.Cmp size n (mode_kept a mode)
op_kept a b (ops.Cmpa size n mode) = ops.Cmpa size n (mode_kept a mode)
op_kept a b (ops.Eor size n mode) = ops.Eor size n (mode_kept b mode)
op_kept a b (ops.Mulu n mode) = ops.Mulu n (mode_kept a mode)
op_kept a b (ops.Muls n mode) = ops.Muls n (mode_kept a mode)
op_kept a b (ops.ShiftMemory task mode) = ops.ShiftMemory task (mode_kept a mode)
op_kept a b (ops.Decimal task source place) = ops.Decimal task (mode_kept a source) (mode_kept b place)
op_kept a b (ops.Extended task size source place) = ops.Extended task size (mode_kept a source) (mode_kept b place)
op_kept a b op = op

abbrev pub decoded_kept : Bool → Bool → Decoded → Decoded
decoded_kept a b d = record { op = op_kept a b d.op; length = d.length }

-- a branch has its displacement in the first word or after it
abbrev pub is_branch : Row → Bool
is_branch rows.Dbcc = true
is_branch rows.Bra = true
is_branch rows.Bsr = true
is_branch rows.Bcc = true
is_branch row = false

-- ---- the parts of a row

one : (a : Bool) (size : Size) (w : ℕ) (tail rest : List ℕ) → AreWords (w ∷ tail)
    → low_mode size 1 (w ∷ (mode_words size (mode_kept a (low_mode size 1 (w ∷ tail))) ++ rest)) ≡ mode_kept a (low_mode size 1 (w ∷ tail))
one a size w tail rest all = low_kept a size 1 w tail [] rest all refl

two : (a : Bool) (size : Size) (w x : ℕ) (tail rest : List ℕ) → AreWords (w ∷ tail)
    → low_mode size 2 (w ∷ x ∷ (mode_words size (mode_kept a (low_mode size 2 (w ∷ tail))) ++ rest)) ≡ mode_kept a (low_mode size 2 (w ∷ tail))
two a size w x tail rest all = low_kept a size 2 w tail (x ∷ []) rest all refl

record HasNumberAndMode (a b : Bool) (size : Size) (u words : List ℕ) : Type 0 where
  number : number_at size 1 u ≡ number_kept a (number_at size 1 words)
  mode : low_mode size (1 + words_of_number size) u ≡ mode_kept b (low_mode size (1 + words_of_number size) words)

with_number : (a b : Bool) (size : Size) (w : ℕ) (tail rest : List ℕ) → AreWords (w ∷ tail)
    → HasNumberAndMode a b size (w ∷ ((number_words size (number_kept a (number_at size 1 (w ∷ tail))) ++ mode_words size (mode_kept b (low_mode size (1 + words_of_number size) (w ∷ tail)))) ++ rest)) (w ∷ tail)
with_number a b Byte w tail rest all = record {
  number = numbers_kept a Byte 1 (w ∷ tail) (w ∷ []) (mode_words Byte (mode_kept b (low_mode Byte 2 (w ∷ tail))) ++ rest) refl;
  mode = two b Byte w _ tail rest all;
}
with_number a b Word w tail rest all = record {
  number = numbers_kept a Word 1 (w ∷ tail) (w ∷ []) (mode_words Word (mode_kept b (low_mode Word 2 (w ∷ tail))) ++ rest) refl;
  mode = two b Word w _ tail rest all;
}
with_number a b Long w tail rest all = record {
  number = numbers_kept a Long 1 (w ∷ tail) (w ∷ []) (mode_words Long (mode_kept b (low_mode Long 3 (w ∷ tail))) ++ rest) refl;
  mode = low_kept b Long 3 w tail (number_kept a (number_at Long 1 (w ∷ tail)) / 65536 ∷ number_kept a (number_at Long 1 (w ∷ tail)) % 65536 ∷ []) rest all refl;
}

second_word : (a : Bool) (w : ℕ) (tail rest : List ℕ) → number_at Word 1 (w ∷ number_kept a (number_at Word 1 (w ∷ tail)) ∷ rest) ≡ number_kept a (number_at Word 1 (w ∷ tail))
unfolding number_at
second_word a w tail rest = refl

second_byte : (a : Bool) (w : ℕ) (tail rest : List ℕ) → number_at Byte 1 (w ∷ number_kept a (number_at Byte 1 (w ∷ tail)) ∷ rest) ≡ number_kept a (number_at Byte 1 (w ∷ tail))
unfolding number_at
second_byte true w tail rest = low_byte _
  where
    low_byte : (n : ℕ) → n % 256 % 256 ≡ n % 256
    low_byte n = omega arith
second_byte false w tail rest = refl

record HasModes (a b : Bool) (size : Size) (u words : List ℕ) : Type 0 where
  source : low_mode size 1 u ≡ mode_kept a (low_mode size 1 words)
  target : high_mode size (1 + words_of_mode size (mode_kept a (low_mode size 1 words))) u ≡ mode_kept b (high_mode size (1 + words_of_mode size (low_mode size 1 words)) words)

front_counted : (a : Bool) (size : Size) (w : ℕ) (mode : Mode) → length (w ∷ mode_words size (mode_kept a mode)) ≡ 1 + words_of_mode size mode
front_counted a size w mode = let e = kept_long a size mode in omega (arith, e)

with_both : (a b : Bool) (size : Size) (w : ℕ) (tail rest : List ℕ) → AreWords (w ∷ tail)
    → HasModes a b size (w ∷ ((mode_words size (mode_kept a (low_mode size 1 (w ∷ tail))) ++ mode_words size (mode_kept b (high_mode size (1 + words_of_mode size (low_mode size 1 (w ∷ tail))) (w ∷ tail)))) ++ rest)) (w ∷ tail)
with_both a b size w tail rest all =
    let source = mode_words size (mode_kept a (low_mode size 1 (w ∷ tail))) in
    let target = mode_words size (mode_kept b (high_mode size (1 + words_of_mode size (low_mode size 1 (w ∷ tail))) (w ∷ tail))) in
    rw (append_assoc source target rest) (record {
      source = one a size w tail (target ++ rest) all;
      target = rw (kept_counted a size (low_mode size 1 (w ∷ tail))) (high_kept b size (1 + words_of_mode size (low_mode size 1 (w ∷ tail))) w tail source rest all (front_counted a size w (low_mode size 1 (w ∷ tail))));
    })

-- −(An) and Dn have no number
paired_kept : (a b : Bool) (n : ℕ) → mode_kept a (if b then modes.PreDec n else modes.Data n) ≡ (if b then modes.PreDec n else modes.Data n)
paired_kept true b n = refl
paired_kept false true n = refl
paired_kept false false n = refl

-- ---- each row

pub made_kept : (a b : Bool) (row : Row) (w : ℕ) (tail rest : List ℕ) → is_branch row ≡ false → AreWords (w ∷ tail)
    → made row (w ∷ (extension (op_kept a b (made row (w ∷ tail)).op) ++ rest)) ≡ decoded_kept a b (made row (w ∷ tail))
unfolding made extension high_register low_register size_of word_or_long paired quick condition_of
made_kept a b (rows.Immediate own) w tail rest h all = let e = with_number a b (size_of (w ∷ tail)) w tail rest all in rw (e.number, e.mode, kept_counted b (size_of (w ∷ tail)) (low_mode (size_of (w ∷ tail)) (1 + words_of_number (size_of (w ∷ tail))) (w ∷ tail))) refl
made_kept a b rows.CompareImmediate w tail rest h all = let e = with_number a b (size_of (w ∷ tail)) w tail rest all in rw (e.number, e.mode, kept_counted b (size_of (w ∷ tail)) (low_mode (size_of (w ∷ tail)) (1 + words_of_number (size_of (w ∷ tail))) (w ∷ tail))) refl
made_kept a b (rows.ImmediateToCcr own) w tail rest h all = rw (second_byte a w tail rest) refl
made_kept a b (rows.ImmediateToSr own) w tail rest h all = rw (second_word a w tail rest) refl
made_kept a b (rows.BitByRegister own) w tail rest h all = rw (one b Byte w tail rest all, kept_counted b Byte (low_mode Byte 1 (w ∷ tail))) refl
made_kept a b (rows.BitByNumber own) w tail rest h all = rw (second_byte a w tail _, two b Byte w _ tail rest all, kept_counted b Byte (low_mode Byte 2 (w ∷ tail))) refl
made_kept a b rows.MovepToRegister w tail rest h all = rw (second_word a w tail rest) refl
made_kept a b rows.MovepToMemory w tail rest h all = rw (second_word b w tail rest) refl
made_kept a b (rows.Move size) w tail rest h all = let e = with_both a b size w tail rest all in rw (e.source, e.target, kept_counted a size (low_mode size 1 (w ∷ tail)), kept_counted b size (high_mode size (1 + words_of_mode size (low_mode size 1 (w ∷ tail))) (w ∷ tail))) refl
made_kept a b (rows.Movea size) w tail rest h all = rw (one a size w tail rest all, kept_counted a size (low_mode size 1 (w ∷ tail))) refl
made_kept a b (rows.Unary own) w tail rest h all = rw (one a (size_of (w ∷ tail)) w tail rest all, kept_counted a (size_of (w ∷ tail)) (low_mode (size_of (w ∷ tail)) 1 (w ∷ tail))) refl
made_kept a b rows.MoveFromSr w tail rest h all = rw (one b Word w tail rest all, kept_counted b Word (low_mode Word 1 (w ∷ tail))) refl
made_kept a b rows.MoveToCcr w tail rest h all = rw (one a Word w tail rest all, kept_counted a Word (low_mode Word 1 (w ∷ tail))) refl
made_kept a b rows.MoveToSr w tail rest h all = rw (one a Word w tail rest all, kept_counted a Word (low_mode Word 1 (w ∷ tail))) refl
made_kept a b rows.Nbcd w tail rest h all = rw (one a Byte w tail rest all, kept_counted a Byte (low_mode Byte 1 (w ∷ tail))) refl
made_kept a b rows.Swap w tail rest h all = refl
made_kept a b rows.Ext w tail rest h all = refl
made_kept a b rows.Pea w tail rest h all = rw (one a Long w tail rest all, kept_counted a Long (low_mode Long 1 (w ∷ tail))) refl
made_kept a b rows.MovemToMemory w tail rest h all = rw (same_word w tail _, two b (word_or_long 64 (w ∷ tail)) w _ tail rest all, kept_counted b (word_or_long 64 (w ∷ tail)) (low_mode (word_or_long 64 (w ∷ tail)) 2 (w ∷ tail))) refl
made_kept a b rows.MovemToRegisters w tail rest h all = rw (same_word w tail _, two a (word_or_long 64 (w ∷ tail)) w _ tail rest all, kept_counted a (word_or_long 64 (w ∷ tail)) (low_mode (word_or_long 64 (w ∷ tail)) 2 (w ∷ tail))) refl
made_kept a b rows.Tst w tail rest h all = rw (one a (size_of (w ∷ tail)) w tail rest all, kept_counted a (size_of (w ∷ tail)) (low_mode (size_of (w ∷ tail)) 1 (w ∷ tail))) refl
made_kept a b rows.Tas w tail rest h all = rw (one a Byte w tail rest all, kept_counted a Byte (low_mode Byte 1 (w ∷ tail))) refl
made_kept a b rows.Illegal w tail rest h all = refl
made_kept a b rows.Trap w tail rest h all = refl
made_kept a b rows.Link w tail rest h all = rw (second_word b w tail rest) refl
made_kept a b rows.Unlk w tail rest h all = refl
made_kept a b rows.MoveToUsp w tail rest h all = refl
made_kept a b rows.MoveFromUsp w tail rest h all = refl
made_kept a b rows.Reset w tail rest h all = refl
made_kept a b rows.Nop w tail rest h all = refl
made_kept a b rows.Stop w tail rest h all = rw (second_word a w tail rest) refl
made_kept a b rows.Rte w tail rest h all = refl
made_kept a b rows.Rts w tail rest h all = refl
made_kept a b rows.Trapv w tail rest h all = refl
made_kept a b rows.Rtr w tail rest h all = refl
made_kept a b rows.Jsr w tail rest h all = rw (one a Long w tail rest all, kept_counted a Long (low_mode Long 1 (w ∷ tail))) refl
made_kept a b rows.Jmp w tail rest h all = rw (one a Long w tail rest all, kept_counted a Long (low_mode Long 1 (w ∷ tail))) refl
made_kept a b rows.Lea w tail rest h all = rw (one a Long w tail rest all, kept_counted a Long (low_mode Long 1 (w ∷ tail))) refl
made_kept a b rows.Chk w tail rest h all = rw (one a Word w tail rest all, kept_counted a Word (low_mode Word 1 (w ∷ tail))) refl
made_kept a b (rows.Quick own) w tail rest h all = rw (one b (size_of (w ∷ tail)) w tail rest all, kept_counted b (size_of (w ∷ tail)) (low_mode (size_of (w ∷ tail)) 1 (w ∷ tail))) refl
made_kept a b rows.Scc w tail rest h all = rw (one a Byte w tail rest all, kept_counted a Byte (low_mode Byte 1 (w ∷ tail))) refl
made_kept a b rows.Dbcc w tail rest h all = cc
made_kept a b rows.Bra w tail rest h all = cc
made_kept a b rows.Bsr w tail rest h all = cc
made_kept a b rows.Bcc w tail rest h all = cc
made_kept a b rows.Moveq w tail rest h all = refl
made_kept a b rows.Divu w tail rest h all = rw (one a Word w tail rest all, kept_counted a Word (low_mode Word 1 (w ∷ tail))) refl
made_kept a b rows.Divs w tail rest h all = rw (one a Word w tail rest all, kept_counted a Word (low_mode Word 1 (w ∷ tail))) refl
made_kept a b (rows.Decimal own) w tail rest h all = rw (paired_kept a (bit_of w 8) (w % 8), paired_kept b (bit_of w 8) (w / 512 % 8)) refl
made_kept a b (rows.Extended own) w tail rest h all = rw (paired_kept a (bit_of w 8) (w % 8), paired_kept b (bit_of w 8) (w / 512 % 8)) refl
made_kept a b (rows.ToRegister own) w tail rest h all = rw (one a (size_of (w ∷ tail)) w tail rest all, kept_counted a (size_of (w ∷ tail)) (low_mode (size_of (w ∷ tail)) 1 (w ∷ tail))) refl
made_kept a b (rows.ToMemory own) w tail rest h all = rw (one b (size_of (w ∷ tail)) w tail rest all, kept_counted b (size_of (w ∷ tail)) (low_mode (size_of (w ∷ tail)) 1 (w ∷ tail))) refl
made_kept a b (rows.ToAddress own) w tail rest h all = rw (one a (word_or_long 256 (w ∷ tail)) w tail rest all, kept_counted a (word_or_long 256 (w ∷ tail)) (low_mode (word_or_long 256 (w ∷ tail)) 1 (w ∷ tail))) refl
made_kept a b rows.Cmp w tail rest h all = rw (one a (size_of (w ∷ tail)) w tail rest all, kept_counted a (size_of (w ∷ tail)) (low_mode (size_of (w ∷ tail)) 1 (w ∷ tail))) refl
made_kept a b rows.Cmpa w tail rest h all = rw (one a (word_or_long 256 (w ∷ tail)) w tail rest all, kept_counted a (word_or_long 256 (w ∷ tail)) (low_mode (word_or_long 256 (w ∷ tail)) 1 (w ∷ tail))) refl
made_kept a b rows.Eor w tail rest h all = rw (one b (size_of (w ∷ tail)) w tail rest all, kept_counted b (size_of (w ∷ tail)) (low_mode (size_of (w ∷ tail)) 1 (w ∷ tail))) refl
made_kept a b rows.Cmpm w tail rest h all = refl
made_kept a b rows.Mulu w tail rest h all = rw (one a Word w tail rest all, kept_counted a Word (low_mode Word 1 (w ∷ tail))) refl
made_kept a b rows.Muls w tail rest h all = rw (one a Word w tail rest all, kept_counted a Word (low_mode Word 1 (w ∷ tail))) refl
made_kept a b rows.ExgData w tail rest h all = refl
made_kept a b rows.ExgAddress w tail rest h all = refl
made_kept a b rows.ExgMixed w tail rest h all = refl
made_kept a b rows.ShiftByNumber w tail rest h all = refl
made_kept a b rows.ShiftByRegister w tail rest h all = refl
made_kept a b rows.ShiftMemory w tail rest h all = rw (one a Word w tail rest all, kept_counted a Word (low_mode Word 1 (w ∷ tail))) refl
