use Rattle.std.proofs.Common.{◌≡◌, ℕ, Bool, cond, sym, ap, ◌∙◌, arith}
use Rattle.std.proofs.lemmas.List.{get_or_read}
use Rattle.md_word.specs.Keys.{key_lt}
use Rattle.md_word.specs.declared.key.Key.{Key}
use Rattle.md_word.specs.declared.event.Next.{Next}
use Rattle.chip_core.specs.Cores as cores
use Rattle.chip_core.specs.Machines.{least_below}
use Rattle.md_chips.specs.Rules.{five, next}
use Rattle.md_chips.specs.declared.chips.Chip.{Chip}
use Rattle.md_chips.proofs.LeastKeys.{least-next, least-one}
use Rattle.md_chips.proofs.least.least_key.Goals as goal
use Rattle.md_chips.proofs.least.least_key.Goals.{then-is_below, else-is_below}

pub chips-init : goal.chips-init
chips-init c =
    ap (λ (n : Next). n.key) c.next.ensures.value
    ∙ ap (λ (x : Chip). (next x).key) (get_or_read c.args.chips.now 0 c.index-chips-0.result (omega (arith, c.requires)) c.index-chips-0.is five.blank)
    ∙ sym (ap (cores.key_in five c.args.chips.now) (least-one (cores.key_in five c.args.chips.now)))

pub chips-preserved : goal.chips-preserved
chips-preserved c =
    let key : ℕ → Key = cores.key_in five c.args.chips.now in
    let here : c.next-in-chips.result.key ≡ key c.chips.i =
    ap (λ (n : Next). n.key) c.next-in-chips.ensures.value
    ∙ ap (λ (x : Chip). (next x).key)
    (get_or_read c.args.chips.now c.chips.i c.index-chips-i.result (omega (arith, c.requires, c.chips-test.true)) c.index-chips-i.is five.blank) in
    let chosen : c.if-is_below.least ≡ cond c.is_below.result c.next-in-chips.result.key c.chips.least = elim c.if-is_below.branch [
      | then-is_below w ↦ w.least-is ∙ sym (ap (λ (b : Bool). cond b c.next-in-chips.result.key c.chips.least) w.if-is_below.true)
      | else-is_below w ↦ w.least-is ∙ sym (ap (λ (b : Bool). cond b c.next-in-chips.result.key c.chips.least) w.if-is_below.false)
    ] in
    chosen
    ∙ ap (λ (b : Bool). cond b c.next-in-chips.result.key c.chips.least) c.is_below.ensures
    ∙ ap (λ (k : Key). cond (key_lt k c.chips.least) k c.chips.least) here
    ∙ ap (λ (k : Key). cond (key_lt (key c.chips.i) k) (key c.chips.i) k) c.chips.invariant
    ∙ least-next key c.chips.i

pub returns : goal.returns
returns c =
    let all : c.chips.i ≡ 5 = omega (arith, c.chips.auto.i-end, c.chips-test.false) in
    c.chips.invariant ∙ ap (λ (i : ℕ). cores.key_in five c.args.chips.now (least_below (cores.key_in five c.args.chips.now) i)) all
