use Rattle.std.proofs.Common.{◌≡◌, ◌+◌, ◌-◌, ◌%◌, ◌++◌, ℕ, List, string_bytes, sym, ap, ◌∙◌, arith}
use Rattle.std.proofs.lemmas.List.{append-nil}
use Rattle.m68k_decode.specs.declared.decoded.Decoded.{Decoded}
use Rattle.debug_text.specs.Replies.{instruction_line, instruction_reply}
use Rattle.debug_text.proofs.Turns.{no_instruction, one_more_instruction}
use Rattle.debug_text.proofs.memory.instruction_reply.Goals as goal

pub loop-index-preserved : goal.loop-index-preserved
loop-index-preserved c =
    let here = c.loop-index.here in
    let op = c.instruction_at-op.ensures.value in (
      one_more_instruction c.args.rom.now c.args.ram.now here ((here + c.from.result) % 16777216) c.args.count c.loop-index.index
          (instruction_reply c.args.rom.now c.args.ram.now c.args.at c.args.count) (string_bytes c.loop-index.text) (string_bytes c.put_instruction.new.text)
          c.loop-index-test.true c.loop-index.invariant.0
          (c.in_ok-put_instruction.ensures {u = tt} ∙ ap (λ (d : Decoded). string_bytes c.loop-index.text ++ instruction_line d here) op)
          (ap (λ (n : ℕ). (here + n) % 16777216) (c.from.ensures ∙ ap (λ (d : Decoded). d.length) op)),
      omega (arith, c.loop-index.invariant.1, c.instruction_at-op.ensures.length.0, c.from.ensures),
      omega arith,
    )

pub returns : goal.returns
returns c =
    let all = c.loop-index.invariant.0 in
    let left : c.args.count - c.loop-index.index ≡ 0 = omega arith in
    sym (append-nil (string_bytes c.loop-index.text))
    ∙ ap (λ (l : List ℕ). string_bytes c.loop-index.text ++ l) (sym (no_instruction c.args.rom.now c.args.ram.now c.loop-index.here))
    ∙ ap (λ (n : ℕ). string_bytes c.loop-index.text ++ instruction_reply c.args.rom.now c.args.ram.now c.loop-index.here n) (sym left)
    ∙ all
