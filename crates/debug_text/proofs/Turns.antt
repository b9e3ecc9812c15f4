-- One more item of a reply.
use Rattle.std.proofs.Common.{◌≡◌, ℕ, suc, ◌+◌, ◌-◌, ◌<◌, ◌==◌, if◌then◌else◌, List, [], ◌++◌, codes, refl, sym, ap, ◌∙◌, append_assoc, add-one, arith}
use Rattle.md_word.specs.declared.regs.Regs.{Regs}
use Rattle.m68k_access.specs.Memory.{bus_address, byte_at}
use Rattle.md_disasm.specs.Digits.{marked_byte}
use Rattle.debug_text.specs.Replies.{bytes_text, instruction_at, instruction_line, instruction_reply, register_text, registers_text}

pub one_more_register : (regs : Regs) (n : ℕ) (start before after : List ℕ) → before ≡ start ++ registers_text regs n → after ≡ before ++ register_text regs n → after ≡ start ++ registers_text regs (n + 1)
unfolding registers_text
one_more_register regs n start before after so_far next =
    next ∙ ap (λ (l : List ℕ). l ++ register_text regs n) so_far ∙ append_assoc start (registers_text regs n) (register_text regs n)
    ∙ ap (λ (k : ℕ). start ++ registers_text regs k) (sym (add-one n))

pub one_more_byte : (rom ram : List ℕ) (at n : ℕ) (before after : List ℕ) → before ≡ bytes_text rom ram at n
    → after ≡ before ++ marked_byte (if n == 0 then [] else codes " ") (byte_at rom ram (bus_address (at + n))) [] → after ≡ bytes_text rom ram at (n + 1)
unfolding bytes_text
one_more_byte rom ram at n before after so_far next =
    next ∙ ap (λ (l : List ℕ). l ++ marked_byte (if n == 0 then [] else codes " ") (byte_at rom ram (bus_address (at + n))) []) so_far
    ∙ ap (λ (k : ℕ). bytes_text rom ram at k) (sym (add-one n))

pub no_byte : (rom ram : List ℕ) (at : ℕ) → bytes_text rom ram at 0 ≡ []
unfolding bytes_text
no_byte rom ram at = refl

pub no_instruction : (rom ram : List ℕ) (at : ℕ) → instruction_reply rom ram at 0 ≡ []
unfolding instruction_reply
no_instruction rom ram at = refl

first_instruction : (rom ram : List ℕ) (at n : ℕ) → instruction_reply rom ram at (suc n)
    ≡ instruction_line (instruction_at rom ram at) at ++ instruction_reply rom ram (bus_address (at + (instruction_at rom ram at).length)) n
unfolding instruction_reply
first_instruction rom ram at n = refl

-- the text so far and the rest of the reply are together the reply, also after one more instruction
pub one_more_instruction : (rom ram : List ℕ) (at next count n : ℕ) (all before after : List ℕ) → n < count
    → before ++ instruction_reply rom ram at (count - n) ≡ all → after ≡ before ++ instruction_line (instruction_at rom ram at) at
    → next ≡ bus_address (at + (instruction_at rom ram at).length) → after ++ instruction_reply rom ram next (count - (n + 1)) ≡ all
one_more_instruction rom ram at next count n all before after more so_far one there =
    let line = instruction_line (instruction_at rom ram at) at in
    let left : count - n ≡ suc (count - (n + 1)) = omega arith in
    (λ i. one i ++ instruction_reply rom ram (there i) (count - (n + 1)))
    ∙ append_assoc before line (instruction_reply rom ram (bus_address (at + (instruction_at rom ram at).length)) (count - (n + 1)))
    ∙ ap (λ (l : List ℕ). before ++ l) (sym (first_instruction rom ram at (count - (n + 1))))
    ∙ ap (λ (k : ℕ). before ++ instruction_reply rom ram at k) (sym left)
    ∙ so_far
