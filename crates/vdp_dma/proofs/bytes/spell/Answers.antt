use Rattle.std.proofs.Common.{◌≡◌, ◌∙◌, ◌++◌, ◌<◌, ◌+◌, ◌-◌, ℕ, List, length, take, drop, ap, sym, subst, arith}
use borrow.Rule.Slice.PartMut.{put_mid}
use Rattle.vdp_ports.specs.Dma.{with_rest}
use Rattle.vdp_ports.specs.Spelling.{IsSettled, Spells, vdp_bytes}
use Rattle.vdp_ports.specs.Vdp.{Vdp, vram_size}
use Rattle.vdp_dma.proofs.Kept.{settled_is}
use Rattle.vdp_dma.proofs.Settled.{settled_after, settled_none}
use Rattle.vdp_dma.proofs.Spelled.{given_back, vram_length, vram_put, vram_there}
use Rattle.vdp_dma.specs.Settling.{settled}
use Rattle.vdp_dma.proofs.bytes.spell.Goals as goal

pub returns-then-count-eq0-clause-bytes : goal.returns-then-count-eq0-clause-bytes
returns-then-count-eq0-clause-bytes c =
    let none : c.due-count.result ≡ 0 = omega (arith, c.if-count-eq0.true) in
    c.spell.ensures.bytes
    ∙ ap (λ (s : Vdp). c.args.into.now.items ++ vdp_bytes s) (settled_none c.args.at c.args.state.now c.due-count.result c.due-count.ensures.value none)

pub returns-then-count-eq0-clause-kept : goal.returns-then-count-eq0-clause-kept
returns-then-count-eq0-clause-kept c = λ earlier l h.
    let none : c.due-count.result ≡ 0 = omega (arith, c.if-count-eq0.true) in
    let is : c.args.state.now ≡ settled c.args.at c.args.state.now = settled_none c.args.at c.args.state.now c.due-count.result c.due-count.ensures.value none in
    subst (λ (s : Vdp). Spells c.args.at c.args.state.now.pal (vdp_bytes s) s) is
    (c.spell.ensures.kept (subst (IsSettled c.args.at) (sym is) (settled_is earlier c.args.at c.args.state.now l h)))

pub returns-clause-kept : goal.returns-clause-kept
returns-clause-kept c = λ earlier l h. c.is_read_again.ensures earlier c.args.at l c.requires.cycle h

pub put_into-requires-clause-copy : goal.put_into-requires-clause-copy
put_into-requires-clause-copy c =
    let s = c.args.state.now in
    let before = c.args.into.now.items in
    ap (λ (l : List ℕ). take (c.len-from.result + 24 + vram_size - (c.len-from.result + 24)) (drop (c.len-from.result + 24) l)) (c.deref_mut.ensures.value ∙ c.spell_with.ensures.bytes)
    ∙ vram_there before s _ c.rest_after.result _ _ (omega (arith, c.state.invariant.of_registers, ap (λ (s : Vdp). length s.registers) c.state.view_is)) (omega (arith, ap length c.deref.ensures, c.state.invariant.of_vram)) (omega (arith, c.len-from.ensures)) (omega arith)
    ∙ (c.deref.ensures ∙ ap (λ (s : Vdp). s.vram) c.state.view_is)

pub returns-clause-bytes : goal.returns-clause-bytes
returns-clause-bytes c =
    let s = c.args.state.now in
    let before = c.args.into.now.items in
    let v = c.put_into.new.vram in
    let from = c.len-from.result + 24 in
    let k = c.len-from.result + 24 + vram_size - (c.len-from.result + 24) in
    let size : k ≡ vram_size = omega arith in
    let put : put_mid from k c.deref_mut.result.now v ≡ before ++ vdp_bytes (with_rest s v c.rest_after.result) =
    ap (λ (l : List ℕ). put_mid from k l v) (c.deref_mut.ensures.value ∙ c.spell_with.ensures.bytes)
    ∙ vram_put before s _ v c.rest_after.result from k (omega (arith, c.state.invariant.of_registers, ap (λ (s : Vdp). length s.registers) c.state.view_is)) (omega (arith, ap length c.deref.ensures, c.state.invariant.of_vram)) (omega (arith, c.len-from.ensures)) size in
    let some : 0 < c.due-count.result = omega (arith, c.if-count-eq0.false) in
    let long : length (before ++ vdp_bytes (with_rest s v c.rest_after.result)) ≡ length (before ++ vdp_bytes (with_rest s c.deref.result.now c.rest_after.result)) =
    vram_length before s v c.deref.result.now c.rest_after.result (omega (arith, c.put_into.ensures.length, ap length c.deref.ensures, c.state.invariant.of_vram)) in
    given_back (put_mid from k c.deref_mut.result.now v) c.spell_with.new.into.items c.spell_with.new.into.len (omega (arith, ap length put, long, ap length c.spell_with.ensures.bytes, ap length c.deref_mut.ensures.value, c.deref_mut.ensures.len))
    ∙ put
    ∙ ap (λ (s : Vdp). before ++ vdp_bytes s)
    (c.rest_after.ensures v
    ∙ settled_after c.args.at c.args.state.now v c.due-count.result c.due-count.ensures.value some c.put_into.ensures.value)
