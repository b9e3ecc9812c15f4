-- With 8 for all numbers but one an instruction of the Z80 is there too, at the address 4 below that number.
use Rattle.std.proofs.Common.{◌≡◌, ℕ, ◌<◌, Bool, true, false, not, ◌&&◌, List, refl, ap, ◌∙◌, sym, subst, arith, Some}
use Rattle.std.specs.Prelude.{nat_lt}
use Rattle.std.proofs.lemmas.Bool.Decides.{nat_tests}
use Rattle.md_word.specs.Width.{extended as widened, signed_of}
use Rattle.z80_decode.specs.declared.condition.Condition.{Condition}
use Rattle.z80_decode.specs.declared.condition.Condition.TheVariants as conditions
use Rattle.z80_decode.specs.declared.index.Index.TheVariants as indexes
use Rattle.z80_decode.specs.declared.op80.Op80.{Op80}
use Rattle.z80_decode.specs.declared.op80.Op80.TheVariants as ops
use Rattle.z80_decode.specs.declared.place8.Place8.TheVariants as places
use Rattle.z80_decode.specs.Fields.{condition_of}
use Rattle.z80_decode.specs.Instructions.{instruction_of}
use Rattle.z80_decode.specs.Nested.{by_opcode, low_group, low_names_hl, names_hl, number_loads, relative_jumps}
use Rattle.md_disasm.specs.Rows80.{Row80, row_of, target}
use Rattle.md_disasm.specs.declared.operand80.Operand80.{Operand80}
use Rattle.asm_z80.specs.Coded80.{AreBytes}
use Rattle.asm_z80.specs.Instruction.{is_db}
use Rattle.asm_z80.proofs.Operands.{shown}
use Rattle.asm_z80.proofs.Sources.{led_tokens}
use Rattle.md_asm.specs.Contents.{under}
use Rattle.md_asm.proofs.Among.{refuted}
use Rattle.md_asm.proofs.Fits.{number_of}
use Rattle.md_asm.proofs.Fill80.{IsDecoded, IsReached, ix_decoded, iy_decoded, not_odd, plain_decoded, reach, row_named, row_read}
use Rattle.md_asm.proofs.Pages80.{both_numbered, far_condition, is_far, is_two}
use Rattle.md_asm.proofs.Rows80.{is_numbered, no_number, read_split, row_kept, same_filled}

-- it is there, however long
abbrev pub IsThere : Row80 → ℕ → Type 0
IsThere row at = (long : ℕ) × IsReached row at long

-- ---- relative jumps

abbrev pub is_near : Op80 → Bool
is_near (ops.JumpRelative by) = true
is_near (ops.JumpRelativeIf condition by) = true
is_near (ops.DecrementAndJump by) = true
is_near op = false

pub target_under : (n : ℕ) → n < 65536 → target (under true n) 2 ≡ n
unfolding target widened signed_of
target_under n h = omega arith

target_low : (at by : ℕ) → target at by < 65536
unfolding target
target_low at by = omega arith

two_low : 2 < 256
two_low = omega arith

zero_low : 0 < 256
zero_low = omega arith

pub jump_there : (n : ℕ) → IsThere (row_of (ops.JumpRelative 2) (under true n)) (under true n)
unfolding by_opcode low_group relative_jumps
jump_there n =
    (2, reach (by_opcode indexes.Hl 0x18 2 0) (row_of (ops.JumpRelative 2) (under true n)) (under true n) 2 (plain_decoded 0x18 2 0 (omega arith) two_low zero_low refl) refl refl refl)

pub loop_there : (n : ℕ) → IsThere (row_of (ops.DecrementAndJump 2) (under true n)) (under true n)
unfolding by_opcode low_group relative_jumps
loop_there n =
    (2, reach (by_opcode indexes.Hl 0x10 2 0) (row_of (ops.DecrementAndJump 2) (under true n)) (under true n) 2 (plain_decoded 0x10 2 0 (omega arith) two_low zero_low refl) refl refl refl)

pub if_there : (condition : Condition) (n : ℕ) → far_condition condition ≡ false → IsThere (row_of (ops.JumpRelativeIf condition 2) (under true n)) (under true n)
unfolding by_opcode low_group relative_jumps condition_of
if_there conditions.NonZero n h = (2, reach (by_opcode indexes.Hl 0x20 2 0) (row_of (ops.JumpRelativeIf conditions.NonZero 2) (under true n)) (under true n) 2 (plain_decoded 0x20 2 0 (omega arith) two_low zero_low refl) refl refl refl)
if_there conditions.Zero n h = (2, reach (by_opcode indexes.Hl 0x28 2 0) (row_of (ops.JumpRelativeIf conditions.Zero 2) (under true n)) (under true n) 2 (plain_decoded 0x28 2 0 (omega arith) two_low zero_low refl) refl refl refl)
if_there conditions.NonCarry n h = (2, reach (by_opcode indexes.Hl 0x30 2 0) (row_of (ops.JumpRelativeIf conditions.NonCarry 2) (under true n)) (under true n) 2 (plain_decoded 0x30 2 0 (omega arith) two_low zero_low refl) refl refl refl)
if_there conditions.Carry n h = (2, reach (by_opcode indexes.Hl 0x38 2 0) (row_of (ops.JumpRelativeIf conditions.Carry 2) (under true n)) (under true n) 2 (plain_decoded 0x38 2 0 (omega arith) two_low zero_low refl) refl refl refl)
if_there _ n h = cc

-- a number alone at the start, and after it
abbrev pub AreAlone : Op80 → ℕ → Type 0
AreAlone op at =
    ((n : ℕ) → number_of (led_tokens 32 (row_of op at).first) ≡ Some n → IsThere (row_kept true false (row_of op at)) (under true n))
    × ((n : ℕ) → number_of (led_tokens 44 (row_of op at).second) ≡ Some n → IsThere (row_kept false true (row_of op at)) (under true n))

to_number : (row : Row80) (t n : ℕ) → t ≡ n → IsThere row (under true t) → IsThere row (under true n)
to_number row t n e h = subst (λ (k : ℕ). IsThere row (under true k)) e h

near_alone : (op : Op80) (at : ℕ) → is_near op ≡ true → is_far op ≡ false → AreAlone op at
near_alone (ops.JumpRelative by) at near far = (
  λ n is. let e : target at by ≡ n = cc in
      let there : target (under true (target at by)) 2 ≡ target at by = target_under (target at by) (target_low at by) in
      to_number _ (target at by) n e (rw there at (jump_there (target at by))),
  λ n is. cc,
)
near_alone (ops.JumpRelativeIf condition by) at near far = (
  λ n is. cc,
  λ n is. let e : target at by ≡ n = cc in
      let there : target (under true (target at by)) 2 ≡ target at by = target_under (target at by) (target_low at by) in
      to_number _ (target at by) n e (rw there at (if_there condition (target at by) far)),
)
near_alone (ops.DecrementAndJump by) at near far = (
  λ n is. let e : target at by ≡ n = cc in
      let there : target (under true (target at by)) 2 ≡ target at by = target_under (target at by) (target_low at by) in
      to_number _ (target at by) n e (rw there at (loop_there (target at by))),
  λ n is. cc,
)
near_alone _ at near far = refuted near

-- ---- LD (IX+d),n

byte_fits : (n : ℕ) → nat_lt n 256 ≡ true → n < 256
byte_fits n h = grind (arith, nat_tests)

eight : 8 < 256
eight = omega arith

ix_there : (by n at : ℕ) → by < 256 → n < 256 → IsThere (row_of (ops.Load (places.AtIx by) (places.Number n)) at) at
unfolding by_opcode low_group number_loads names_hl low_names_hl
ix_there by n at h k =
    (4, reach (by_opcode indexes.Ix 0x36 by n) (row_of (ops.Load (places.AtIx by) (places.Number n)) at) at 4 (ix_decoded 0x36 by n (omega arith) h k refl) refl refl refl)

iy_there : (by n at : ℕ) → by < 256 → n < 256 → IsThere (row_of (ops.Load (places.AtIy by) (places.Number n)) at) at
unfolding by_opcode low_group number_loads names_hl low_names_hl
iy_there by n at h k =
    (4, reach (by_opcode indexes.Iy 0x36 by n) (row_of (ops.Load (places.AtIy by) (places.Number n)) at) at 4 (iy_decoded 0x36 by n (omega arith) h k refl) refl refl refl)

two_alone : (op : Op80) (at : ℕ) → is_two op ≡ true → shown (row_of op at).first ≡ true → shown (row_of op at).second ≡ true → AreAlone op at
two_alone (ops.Load (places.AtIx by) (places.Number m)) at two first second = (
  λ n is. ix_there by 8 (under true n) (byte_fits by first) eight,
  λ n is. ix_there 8 m (under true n) eight (byte_fits m second),
)
two_alone (ops.Load (places.AtIy by) (places.Number m)) at two first second = (
  λ n is. iy_there by 8 (under true n) (byte_fits by first) eight,
  λ n is. iy_there 8 m (under true n) eight (byte_fits m second),
)
two_alone _ at two first second = refuted two

-- ---- all others have one number, and their text is the same at all addresses

pub still : (op : Op80) (at other : ℕ) → is_near op ≡ false → row_of op at ≡ row_of op other
still (ops.JumpRelative by) at other h = cc
still (ops.JumpRelativeIf condition by) at other h = cc
still (ops.DecrementAndJump by) at other h = cc
still _ at other h = refl

numbered_first : (op : Op80) (at : ℕ) → is_numbered (row_of op at).first ≡ is_numbered (row_of op 0).first
numbered_first (ops.JumpRelative by) at = refl
numbered_first _ at = refl

numbered_second : (op : Op80) (at : ℕ) → is_numbered (row_of op at).second ≡ is_numbered (row_of op 0).second
numbered_second (ops.JumpRelativeIf condition by) at = refl
numbered_second _ at = refl

kept_first : (row : Row80) → is_numbered row.second ≡ false → row ≡ row_kept true false row
kept_first row h = ap (λ (o : Operand80). record row { second = o }) (sym (same_filled row.second h))

kept_second : (row : Row80) → is_numbered row.first ≡ false → row ≡ row_kept false true row
kept_second row h = ap (λ (o : Operand80). record row { first = o }) (sym (same_filled row.first h))

numbered_by : (b : Bool) (c : ℕ) (o : Operand80) (n : ℕ) → is_numbered o ≡ b → number_of (led_tokens c o) ≡ Some n → b ≡ true
numbered_by true c o n is has = refl
numbered_by false c o n is has = let none = no_number c o is in cc

not_both : (a b : Bool) → (a && b) ≡ false → a ≡ true → b ≡ false
not_both true b h e = h
not_both false b h e = cc

not_both_other : (a b : Bool) → (a && b) ≡ false → b ≡ true → a ≡ false
not_both_other a true h e = cases a h
  where
    cases : (x : Bool) → (x && true) ≡ false → x ≡ false
    cases true k = cc
    cases false k = refl
not_both_other a false h e = cc

one_alone : (bytes : List ℕ) (at : ℕ) → AreBytes bytes → is_db (instruction_of bytes).op ≡ false → is_near (instruction_of bytes).op ≡ false → both_numbered (instruction_of bytes).op ≡ false
    → AreAlone (instruction_of bytes).op at
one_alone bytes at h none near both =
    let op = (instruction_of bytes).op in
    let own : IsDecoded (instruction_of bytes) = record { bytes = bytes; all = h; is = refl } in (
      λ n is.
          let first : is_numbered (row_of op at).first ≡ true = numbered_by (is_numbered (row_of op at).first) 32 (row_of op at).first n refl is in
          let other : is_numbered (row_of op at).second ≡ false = numbered_second op at ∙ not_both _ _ both (sym (numbered_first op at) ∙ first) in
          ((instruction_of bytes).length, reach (instruction_of bytes) (row_kept true false (row_of op at)) (under true n) (instruction_of bytes).length own (row_named op at none) (still op (under true n) at near ∙ kept_first (row_of op at) other) refl),
      λ n is.
          let second : is_numbered (row_of op at).second ≡ true = numbered_by (is_numbered (row_of op at).second) 44 (row_of op at).second n refl is in
          let other : is_numbered (row_of op at).first ≡ false = numbered_first op at ∙ not_both_other _ _ both (sym (numbered_second op at) ∙ second) in
          ((instruction_of bytes).length, reach (instruction_of bytes) (row_kept false true (row_of op at)) (under true n) (instruction_of bytes).length own (row_named op at none) (still op (under true n) at near ∙ kept_second (row_of op at) other) refl),
    )

unless_two : (both two : Bool) → (both && not two) ≡ false → two ≡ false → both ≡ false
unless_two true true h e = cc
unless_two true false h e = cc
unless_two false two h e = refl

alone_by : (near two : Bool) (bytes : List ℕ) (at : ℕ) → AreBytes bytes → is_db (instruction_of bytes).op ≡ false
    → is_near (instruction_of bytes).op ≡ near → is_two (instruction_of bytes).op ≡ two → AreAlone (instruction_of bytes).op at
alone_by true two bytes at h none near is = near_alone (instruction_of bytes).op at near ((not_odd bytes h none).far)
alone_by false true bytes at h none near is =
    let parts = read_split (row_of (instruction_of bytes).op at) (row_read bytes at h none) in
    two_alone (instruction_of bytes).op at is parts.0 parts.1
alone_by false false bytes at h none near is =
    one_alone bytes at h none near (unless_two (both_numbered (instruction_of bytes).op) (is_two (instruction_of bytes).op) ((not_odd bytes h none).one) is)

pub all_alone : (bytes : List ℕ) (at : ℕ) → AreBytes bytes → is_db (instruction_of bytes).op ≡ false → AreAlone (instruction_of bytes).op at
all_alone bytes at h none = alone_by _ _ bytes at h none refl refl
