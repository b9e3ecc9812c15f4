-- An instruction of the 68000 is there with any other number of the range in the place of one of its own.
use Rattle.std.proofs.Common.{◌≡◌, ℕ, suc, ◌+◌, ◌/◌, ◌%◌, ◌<◌, ◌≤◌, ◌==◌, Bool, true, false, ◌&&◌, nat_le, nat_lt, List, ◌∷◌, refl, ◌∙◌, sym, arith, Some, if◌then◌else◌}
use Rattle.std.proofs.lemmas.Bool.{and_parts}
use Rattle.md_word.specs.Fields.{bit_of}
use Rattle.md_word.specs.Width.{modulus_of}
use Rattle.md_word.specs.declared.mode.Mode.{Mode}
use Rattle.md_word.specs.declared.mode.Mode.TheVariants as modes
use Rattle.md_word.specs.declared.size.Size.{Size}
use Rattle.md_word.specs.declared.size.Size.TheVariants.{Byte, Word, Long}
use Rattle.m68k_decode.specs.Fields.{condition_of, displacement_of, high_mode, high_register, low_mode, low_register, number_at, paired, quick, size_of, word_or_long, words_of_mode, words_of_number}
use Rattle.m68k_decode.specs.Instructions.{made}
use Rattle.m68k_decode.specs.Nested.{nested}
use Rattle.m68k_decode.specs.Rows as rows
use Rattle.m68k_decode.specs.Rows.{Row}
use Rattle.m68k_decode.specs.declared.condition.Condition.{Condition}
use Rattle.m68k_decode.specs.declared.decoded.Decoded.{Decoded}
use Rattle.m68k_decode.specs.declared.displacement.Displacement.{Displacement}
use Rattle.m68k_decode.specs.declared.displacement.Displacement.TheVariants as displacements
use Rattle.m68k_decode.specs.declared.op.Op.TheVariants as ops
use Rattle.md_disasm.specs.Rows68.{Row68, is_turned, row_of}
use Rattle.asm_m68k.specs.Table.{AreWords}
use Rattle.md_asm.specs.Contents.{under}
use Rattle.md_asm.specs.Ranges.{main_allows, mode_limit}
use Rattle.md_asm.proofs.Among.{at_most, below, no_number}
use Rattle.md_asm.proofs.First68.{high_low, high_with, low_low, low_number, low_other, low_register_stays, low_with, moveq_row, quick_is, quick_row, same_kind, same_left, same_register, same_size, shift_row, trap_row}
use Rattle.md_asm.proofs.Low68.{cons_low}
use Rattle.md_asm.proofs.Put68.{high_put, high_same, low_put, low_same, mode_few, number_few, number_put, number_same, same_after, same_front, with_counted}
use Rattle.md_asm.proofs.Reach68.{AreOf, IsDecoded, IsReached, bcc_by, bra_by, bsr_by, byte_under, dbcc_decoded, near, own_decoded, reach, word_under}
use Rattle.md_asm.proofs.Rows68.{mode_with, operand_with}

-- a row with another number in its first operand, or in its second
abbrev pub first_with : ℕ → Row68 → Row68
first_with n row = record row { first = operand_with n row.first }

abbrev pub second_with : ℕ → Row68 → Row68
second_with n row = record row { second = operand_with n row.second }

-- an instruction of the row is there, at some address
pub record IsSomewhere (row : Row68) : Type 0 where
  pub at : ℕ
  pub low : at < 4294967296
  pub long : ℕ
  pub reached : IsReached row at long

-- words after the same first word
there : (row : Row) (w : ℕ) (tail rest : List ℕ) (at : ℕ) (wanted : Row68) → at < 4294967296 → AreOf row w tail → AreWords (w ∷ rest) → row_of (made row (w ∷ rest)).op at ≡ wanted → IsSomewhere wanted
there row w tail rest at wanted a of all is =
    let own : AreOf row w rest = record { low = of.low; is = of.is; entered = of.entered; all = all } in
    record { at = at; low = a; long = (made row (w ∷ rest)).length; reached = reach (made row (w ∷ rest)) wanted at (made row (w ∷ rest)).length (own_decoded row w rest own) is refl }

-- another first word of the same row
other : (row : Row) (w v : ℕ) (tail : List ℕ) (at : ℕ) (wanted : Row68) → at < 4294967296 → AreOf row w tail → v < 65536 → nested v ≡ Some row → row_of (made row (v ∷ tail)).op at ≡ wanted → IsSomewhere wanted
other row w v tail at wanted a of low row_is is =
    let entered = of.entered in
    let all = of.all in
    let own : AreOf row v tail = record { low = low; is = row_is; entered = rw (row_is ∙ sym of.is) entered; all = cons_low v tail low (λ i. all (suc i)) } in
    record { at = at; low = a; long = (made row (v ∷ tail)).length; reached = reach (made row (v ∷ tail)) wanted at (made row (v ∷ tail)).length (own_decoded row v tail own) is refl }

-- −(An) and Dn have no number
paired_none : (b : Bool) (size : Size) (r n : ℕ) → nat_lt n (mode_limit size (if b then modes.PreDec r else modes.Data r)) ≡ true → ⊥
paired_none true size r n h = no_number n h
paired_none false size r n h = no_number n h

turned_with : (n : ℕ) (mode : Mode) → is_turned (mode_with n mode) ≡ is_turned mode
turned_with n (modes.PreDec r) = refl
turned_with n _ = refl

-- ---- a number before a mode

record IsFirstNumber (size : Size) (n w : ℕ) (tail : List ℕ) : Type 0 where
  rest : List ℕ
  all : AreWords (w ∷ rest)
  number : number_at size 1 (w ∷ rest) ≡ n
  mode : low_mode size (1 + words_of_number size) (w ∷ rest) ≡ low_mode size (1 + words_of_number size) (w ∷ tail)

number_first : (size : Size) (n w : ℕ) (tail : List ℕ) → nat_lt n (modulus_of size) ≡ true → AreWords (w ∷ tail) → IsFirstNumber size n w tail
number_first size n w tail fits all =
    let p = number_put size 1 n w tail (omega arith) (omega arith) (below n (modulus_of size) fits) all in
    let k = 1 + words_of_number size in
    let mode = low_mode size k (w ∷ tail) in
    let few = mode_few size mode in
    let short = number_few size in record {
      rest = p.rest;
      all = p.put.all;
      number = p.is;
      mode = low_same size k w p.rest tail (same_after 1 (words_of_number size) k (words_of_mode size mode) w tail p.rest p.put (omega arith) (omega (arith, few, short)));
    }

record IsModeAfter (size : Size) (n w : ℕ) (tail : List ℕ) : Type 0 where
  rest : List ℕ
  all : AreWords (w ∷ rest)
  number : number_at size 1 (w ∷ rest) ≡ number_at size 1 (w ∷ tail)
  mode : low_mode size (1 + words_of_number size) (w ∷ rest) ≡ mode_with n (low_mode size (1 + words_of_number size) (w ∷ tail))

mode_after : (size : Size) (n w : ℕ) (tail : List ℕ) → nat_lt n (mode_limit size (low_mode size (1 + words_of_number size) (w ∷ tail))) ≡ true → AreWords (w ∷ tail) → IsModeAfter size n w tail
mode_after size n w tail fits all =
    let k = 1 + words_of_number size in
    let short = number_few size in
    let p = low_put size k n w tail (omega arith) (omega (arith, short)) all fits in record {
      rest = p.rest;
      all = p.put.all;
      number = number_same size 1 (w ∷ p.rest) (w ∷ tail) (same_front k (words_of_mode size (low_mode size k (w ∷ tail))) 1 (words_of_number size) w tail p.rest p.put (omega arith) (omega arith));
      mode = p.is;
    }

-- after one word, whatever the mode's size
record IsAfterWord (size : Size) (n w : ℕ) (tail : List ℕ) : Type 0 where
  rest : List ℕ
  all : AreWords (w ∷ rest)
  byte : number_at Byte 1 (w ∷ rest) ≡ number_at Byte 1 (w ∷ tail)
  word : number_at Word 1 (w ∷ rest) ≡ number_at Word 1 (w ∷ tail)
  mode : low_mode size 2 (w ∷ rest) ≡ mode_with n (low_mode size 2 (w ∷ tail))

following_word : (size : Size) (n w : ℕ) (tail : List ℕ) → nat_lt n (mode_limit size (low_mode size 2 (w ∷ tail))) ≡ true → AreWords (w ∷ tail) → IsAfterWord size n w tail
following_word size n w tail fits all =
    let p = low_put size 2 n w tail (omega arith) (omega arith) all fits in
    let same = same_front 2 (words_of_mode size (low_mode size 2 (w ∷ tail))) 1 1 w tail p.rest p.put (omega arith) (omega arith) in record {
      rest = p.rest;
      all = p.put.all;
      byte = number_same Byte 1 (w ∷ p.rest) (w ∷ tail) same;
      word = number_same Word 1 (w ∷ p.rest) (w ∷ tail) same;
      mode = p.is;
    }

-- ---- two modes

record AreModes (size : Size) (w : ℕ) (tail : List ℕ) (source target : Mode) : Type 0 where
  rest : List ℕ
  all : AreWords (w ∷ rest)
  source_is : low_mode size 1 (w ∷ rest) ≡ source
  target_is : high_mode size (1 + words_of_mode size (low_mode size 1 (w ∷ tail))) (w ∷ rest) ≡ target

source_put : (size : Size) (n w : ℕ) (tail : List ℕ) → nat_lt n (mode_limit size (low_mode size 1 (w ∷ tail))) ≡ true → AreWords (w ∷ tail)
    → AreModes size w tail (mode_with n (low_mode size 1 (w ∷ tail))) (high_mode size (1 + words_of_mode size (low_mode size 1 (w ∷ tail))) (w ∷ tail))
source_put size n w tail fits all =
    let p = low_put size 1 n w tail (omega arith) (omega arith) all fits in
    let count = words_of_mode size (low_mode size 1 (w ∷ tail)) in
    let target = high_mode size (1 + count) (w ∷ tail) in
    let few = mode_few size (low_mode size 1 (w ∷ tail)) in
    let too = mode_few size target in record {
      rest = p.rest;
      all = p.put.all;
      source_is = p.is;
      target_is = high_same size (1 + count) w p.rest tail (same_after 1 count (1 + count) (words_of_mode size target) w tail p.rest p.put (omega arith) (omega (arith, few, too)));
    }

target_put : (size : Size) (n w : ℕ) (tail : List ℕ) → nat_lt n (mode_limit size (high_mode size (1 + words_of_mode size (low_mode size 1 (w ∷ tail))) (w ∷ tail))) ≡ true → AreWords (w ∷ tail)
    → AreModes size w tail (low_mode size 1 (w ∷ tail)) (mode_with n (high_mode size (1 + words_of_mode size (low_mode size 1 (w ∷ tail))) (w ∷ tail)))
target_put size n w tail fits all =
    let count = words_of_mode size (low_mode size 1 (w ∷ tail)) in
    let few = mode_few size (low_mode size 1 (w ∷ tail)) in
    let p = high_put size (1 + count) n w tail (omega arith) (omega (arith, few)) all fits in record {
      rest = p.rest;
      all = p.put.all;
      source_is = low_same size 1 w p.rest tail (same_front (1 + count) (words_of_mode size (high_mode size (1 + count) (w ∷ tail))) 1 count w tail p.rest p.put (omega arith) (omega arith));
      target_is = p.is;
    }

-- ---- numbers in the first word

quick_parts : (n : ℕ) → (nat_le 1 n && nat_le n 8) ≡ true → (1 ≤ n) × (n ≤ 8)
quick_parts n h = let p = and_parts (nat_le 1 n) (nat_le n 8) h in (at_most 1 n p.0, at_most n 8 p.1)

vector_is : (n : ℕ) → n < 16 → (0x4e40 + n) % 16 ≡ n
vector_is n h = omega arith

vector_fits : (n : ℕ) → n < 16 → 0x4e40 + n < 65536
vector_fits n h = omega arith

-- ---- branches

somewhere : (d : Decoded) (wanted : Row68) (n : ℕ) → IsDecoded d → row_of d.op (under false n) ≡ wanted → IsSomewhere wanted
somewhere d wanted n from is = record { at = under false n; low = omega arith; long = d.length; reached = reach d wanted (under false n) d.length from is refl }

bra_with : (d : Displacement) (at n : ℕ) → n < 4294967296 → row_of (ops.Bra (near d)) (under false n) ≡ first_with n (row_of (ops.Bra d) at)
bra_with (displacements.Byte by) at n h = rw (byte_under n h) refl
bra_with (displacements.Word by) at n h = rw (word_under n h) refl

bsr_with : (d : Displacement) (at n : ℕ) → n < 4294967296 → row_of (ops.Bsr (near d)) (under false n) ≡ first_with n (row_of (ops.Bsr d) at)
bsr_with (displacements.Byte by) at n h = rw (byte_under n h) refl
bsr_with (displacements.Word by) at n h = rw (word_under n h) refl

bcc_with : (condition : Condition) (d : Displacement) (at n : ℕ) → n < 4294967296 → row_of (ops.Bcc condition (near d)) (under false n) ≡ first_with n (row_of (ops.Bcc condition d) at)
bcc_with condition (displacements.Byte by) at n h = rw (byte_under n h) refl
bcc_with condition (displacements.Word by) at n h = rw (word_under n h) refl

-- ---- each row, with another number in the first operand

module _ (at n : ℕ) (a : at < 4294967296) where
  pub first_there : (row : Row) (w : ℕ) (tail : List ℕ) → AreOf row w tail → main_allows (made row (w ∷ tail)).op (row_of (made row (w ∷ tail)).op at).first n ≡ true
      → IsSomewhere (first_with n (row_of (made row (w ∷ tail)).op at))
  unfolding made high_register low_register size_of word_or_long paired condition_of
  first_there (rows.Immediate own) w tail of h = let p = number_first (size_of (w ∷ tail)) n w tail h of.all in there (rows.Immediate own) w tail p.rest at _ a of p.all (rw (p.number, p.mode) refl)
  first_there rows.CompareImmediate w tail of h = let p = number_first (size_of (w ∷ tail)) n w tail h of.all in there rows.CompareImmediate w tail p.rest at _ a of p.all (rw (p.number, p.mode) refl)
  first_there (rows.ImmediateToCcr own) w tail of h = let p = number_first Byte n w tail h of.all in there (rows.ImmediateToCcr own) w tail p.rest at _ a of p.all (rw p.number refl)
  first_there (rows.ImmediateToSr own) w tail of h = let p = number_first Word n w tail h of.all in there (rows.ImmediateToSr own) w tail p.rest at _ a of p.all (rw p.number refl)
  first_there (rows.BitByNumber own) w tail of h = let p = number_first Byte n w tail h of.all in there (rows.BitByNumber own) w tail p.rest at _ a of p.all (rw (p.number, p.mode) refl)
  first_there rows.MovepToRegister w tail of h = let p = number_first Word n w tail h of.all in there rows.MovepToRegister w tail p.rest at _ a of p.all (rw p.number refl)
  first_there (rows.Move size) w tail of h =
      let p = source_put size n w tail h of.all in
      there (rows.Move size) w tail p.rest at _ a of p.all (rw (p.source_is, with_counted n size (low_mode size 1 (w ∷ tail)), p.target_is) refl)
  first_there (rows.Movea size) w tail of h = let p = low_put size 1 n w tail (omega arith) (omega arith) of.all h in there (rows.Movea size) w tail p.rest at _ a of p.put.all (rw p.is refl)
  first_there (rows.Unary own) w tail of h = let p = low_put (size_of (w ∷ tail)) 1 n w tail (omega arith) (omega arith) of.all h in there (rows.Unary own) w tail p.rest at _ a of p.put.all (rw p.is refl)
  first_there rows.MoveToCcr w tail of h = let p = low_put Word 1 n w tail (omega arith) (omega arith) of.all h in there rows.MoveToCcr w tail p.rest at _ a of p.put.all (rw p.is refl)
  first_there rows.MoveToSr w tail of h = let p = low_put Word 1 n w tail (omega arith) (omega arith) of.all h in there rows.MoveToSr w tail p.rest at _ a of p.put.all (rw p.is refl)
  first_there rows.Nbcd w tail of h = let p = low_put Byte 1 n w tail (omega arith) (omega arith) of.all h in there rows.Nbcd w tail p.rest at _ a of p.put.all (rw p.is refl)
  first_there rows.Pea w tail of h = let p = low_put Long 1 n w tail (omega arith) (omega arith) of.all h in there rows.Pea w tail p.rest at _ a of p.put.all (rw p.is refl)
  first_there rows.MovemToRegisters w tail of h = let p = following_word (word_or_long 64 (w ∷ tail)) n w tail h of.all in there rows.MovemToRegisters w tail p.rest at _ a of p.all (rw (p.word, p.mode) refl)
  first_there rows.Tst w tail of h = let p = low_put (size_of (w ∷ tail)) 1 n w tail (omega arith) (omega arith) of.all h in there rows.Tst w tail p.rest at _ a of p.put.all (rw p.is refl)
  first_there rows.Tas w tail of h = let p = low_put Byte 1 n w tail (omega arith) (omega arith) of.all h in there rows.Tas w tail p.rest at _ a of p.put.all (rw p.is refl)
  first_there rows.Trap w tail of h = let k = below n 16 h in other rows.Trap w (0x4e40 + n) tail at _ a of (vector_fits n k) (trap_row n k) (rw (vector_is n k) refl)
  first_there rows.Stop w tail of h = let p = number_first Word n w tail h of.all in there rows.Stop w tail p.rest at _ a of p.all (rw p.number refl)
  first_there rows.Jsr w tail of h = let p = low_put Long 1 n w tail (omega arith) (omega arith) of.all h in there rows.Jsr w tail p.rest at _ a of p.put.all (rw p.is refl)
  first_there rows.Jmp w tail of h = let p = low_put Long 1 n w tail (omega arith) (omega arith) of.all h in there rows.Jmp w tail p.rest at _ a of p.put.all (rw p.is refl)
  first_there rows.Lea w tail of h = let p = low_put Long 1 n w tail (omega arith) (omega arith) of.all h in there rows.Lea w tail p.rest at _ a of p.put.all (rw p.is refl)
  first_there rows.Chk w tail of h = let p = low_put Word 1 n w tail (omega arith) (omega arith) of.all h in there rows.Chk w tail p.rest at _ a of p.put.all (rw p.is refl)
  first_there (rows.Quick own) w tail of h =
      let k = quick_parts n h in
      other (rows.Quick own) w (high_with n w) tail at _ a of (high_low n w of.low) (quick_row own n w of.low of.is)
      (rw (same_size n w of.low, quick_is n w tail of.low k.0 k.1, low_other (size_of (w ∷ tail)) n w tail of.low) refl)
  first_there rows.Scc w tail of h = let p = low_put Byte 1 n w tail (omega arith) (omega arith) of.all h in there rows.Scc w tail p.rest at _ a of p.put.all (rw p.is refl)
  first_there rows.Bra w tail of h =
      somewhere _ _ n (bra_by (w % 256 == 0) w tail refl of) (bra_with (displacement_of (w ∷ tail)) at n (below n 4294967296 h))
  first_there rows.Bsr w tail of h =
      somewhere _ _ n (bsr_by (w % 256 == 0) w tail refl of) (bsr_with (displacement_of (w ∷ tail)) at n (below n 4294967296 h))
  first_there rows.Bcc w tail of h =
      somewhere _ _ n (bcc_by (w % 256 == 0) w tail refl of) (bcc_with (condition_of (w ∷ tail)) (displacement_of (w ∷ tail)) at n (below n 4294967296 h))
  first_there rows.Moveq w tail of h =
      let k = below n 256 h in
      other rows.Moveq w (low_with n w) tail at _ a of (low_low n w of.low k) (moveq_row n w of.low k of.is) (rw (low_number n w k, low_register_stays n w k) refl)
  first_there rows.Divu w tail of h = let p = low_put Word 1 n w tail (omega arith) (omega arith) of.all h in there rows.Divu w tail p.rest at _ a of p.put.all (rw p.is refl)
  first_there rows.Divs w tail of h = let p = low_put Word 1 n w tail (omega arith) (omega arith) of.all h in there rows.Divs w tail p.rest at _ a of p.put.all (rw p.is refl)
  first_there rows.Mulu w tail of h = let p = low_put Word 1 n w tail (omega arith) (omega arith) of.all h in there rows.Mulu w tail p.rest at _ a of p.put.all (rw p.is refl)
  first_there rows.Muls w tail of h = let p = low_put Word 1 n w tail (omega arith) (omega arith) of.all h in there rows.Muls w tail p.rest at _ a of p.put.all (rw p.is refl)
  first_there (rows.Decimal own) w tail of h = absurd (paired_none (bit_of w 8) Byte (w % 8) n h)
  first_there (rows.Extended own) w tail of h = absurd (paired_none (bit_of w 8) (size_of (w ∷ tail)) (w % 8) n h)
  first_there (rows.ToRegister own) w tail of h = let p = low_put (size_of (w ∷ tail)) 1 n w tail (omega arith) (omega arith) of.all h in there (rows.ToRegister own) w tail p.rest at _ a of p.put.all (rw p.is refl)
  first_there (rows.ToAddress own) w tail of h = let p = low_put (word_or_long 256 (w ∷ tail)) 1 n w tail (omega arith) (omega arith) of.all h in there (rows.ToAddress own) w tail p.rest at _ a of p.put.all (rw p.is refl)
  first_there rows.Cmp w tail of h = let p = low_put (size_of (w ∷ tail)) 1 n w tail (omega arith) (omega arith) of.all h in there rows.Cmp w tail p.rest at _ a of p.put.all (rw p.is refl)
  first_there rows.Cmpa w tail of h = let p = low_put (word_or_long 256 (w ∷ tail)) 1 n w tail (omega arith) (omega arith) of.all h in there rows.Cmpa w tail p.rest at _ a of p.put.all (rw p.is refl)
  first_there rows.Cmpm w tail of h = absurd (no_number n h)
  first_there rows.ShiftByNumber w tail of h =
      let k = quick_parts n h in
      other rows.ShiftByNumber w (high_with n w) tail at _ a of (high_low n w of.low) (shift_row n w of.low of.is)
      (rw (same_size n w of.low, same_kind n w of.low, same_left n w of.low, same_register n w of.low, quick_is n w tail of.low k.0 k.1) refl)
  first_there rows.ShiftMemory w tail of h = let p = low_put Word 1 n w tail (omega arith) (omega arith) of.all h in there rows.ShiftMemory w tail p.rest at _ a of p.put.all (rw p.is refl)
  first_there row w tail of h = cc

  -- ---- and in the second

  pub second_there : (row : Row) (w : ℕ) (tail : List ℕ) → AreOf row w tail → main_allows (made row (w ∷ tail)).op (row_of (made row (w ∷ tail)).op at).second n ≡ true
      → IsSomewhere (second_with n (row_of (made row (w ∷ tail)).op at))
  unfolding made high_register low_register size_of word_or_long paired quick condition_of
  second_there (rows.Immediate own) w tail of h = let p = mode_after (size_of (w ∷ tail)) n w tail h of.all in there (rows.Immediate own) w tail p.rest at _ a of p.all (rw (p.number, p.mode) refl)
  second_there rows.CompareImmediate w tail of h = let p = mode_after (size_of (w ∷ tail)) n w tail h of.all in there rows.CompareImmediate w tail p.rest at _ a of p.all (rw (p.number, p.mode) refl)
  second_there (rows.BitByRegister own) w tail of h = let p = low_put Byte 1 n w tail (omega arith) (omega arith) of.all h in there (rows.BitByRegister own) w tail p.rest at _ a of p.put.all (rw p.is refl)
  second_there (rows.BitByNumber own) w tail of h = let p = following_word Byte n w tail h of.all in there (rows.BitByNumber own) w tail p.rest at _ a of p.all (rw (p.byte, p.mode) refl)
  second_there rows.MovepToMemory w tail of h = let p = number_first Word n w tail h of.all in there rows.MovepToMemory w tail p.rest at _ a of p.all (rw p.number refl)
  second_there (rows.Move size) w tail of h = let p = target_put size n w tail h of.all in there (rows.Move size) w tail p.rest at _ a of p.all (rw (p.source_is, p.target_is) refl)
  second_there rows.MoveFromSr w tail of h = let p = low_put Word 1 n w tail (omega arith) (omega arith) of.all h in there rows.MoveFromSr w tail p.rest at _ a of p.put.all (rw p.is refl)
  second_there rows.MovemToMemory w tail of h =
      let p = following_word (word_or_long 64 (w ∷ tail)) n w tail h of.all in
      there rows.MovemToMemory w tail p.rest at _ a of p.all (rw (p.word, p.mode, turned_with n (low_mode (word_or_long 64 (w ∷ tail)) 2 (w ∷ tail))) refl)
  second_there rows.Link w tail of h = let p = number_first Word n w tail h of.all in there rows.Link w tail p.rest at _ a of p.all (rw p.number refl)
  second_there (rows.Quick own) w tail of h = let p = low_put (size_of (w ∷ tail)) 1 n w tail (omega arith) (omega arith) of.all h in there (rows.Quick own) w tail p.rest at _ a of p.put.all (rw p.is refl)
  second_there rows.Dbcc w tail of h = somewhere _ _ n (dbcc_decoded w tail of) (rw (word_under n (below n 4294967296 h)) refl)
  second_there (rows.Decimal own) w tail of h = absurd (paired_none (bit_of w 8) Byte (w / 512 % 8) n h)
  second_there (rows.Extended own) w tail of h = absurd (paired_none (bit_of w 8) (size_of (w ∷ tail)) (w / 512 % 8) n h)
  second_there (rows.ToMemory own) w tail of h = let p = low_put (size_of (w ∷ tail)) 1 n w tail (omega arith) (omega arith) of.all h in there (rows.ToMemory own) w tail p.rest at _ a of p.put.all (rw p.is refl)
  second_there rows.Eor w tail of h = let p = low_put (size_of (w ∷ tail)) 1 n w tail (omega arith) (omega arith) of.all h in there rows.Eor w tail p.rest at _ a of p.put.all (rw p.is refl)
  second_there rows.Cmpm w tail of h = absurd (no_number n h)
  second_there row w tail of h = cc
