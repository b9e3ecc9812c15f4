use Rattle.std.proofs.Common.{◌≡◌, ap, ◌∙◌, lit<, sym, subst, ℕ, Bool, List, length, ◌≤◌, ◌*◌, ◌+◌, ◌++◌, IfSome}
use Rattle.std.specs.Prelude.{option_copied, vec_len, vec_capacity}
use Rattle.md_word.specs.Region.{picture_length}
use Rattle.md_chips.specs.Drained.{frame_of}
use Rattle.md_chips.specs.Lines.{frames_of}
use Rattle.md_chips.specs.Machines.{MachineValue}
use Rattle.md_machine.specs.Outputs.{frame_length, frames_bytes}
use Rattle.md_chips.specs.Refinement.{console_of, renderer_of}
use Rattle.md_chips.specs.declared.chips.Chip.{Chip}
use Rattle.md_chips.proofs.Held.{read-chip}
use Rattle.md_machine.proofs.machine.Machine.drain_frames.Goals as goal

pub put_frames-requires-clause-size : goal.put_frames-requires-clause-size
unfolding console_of
put_frames-requires-clause-size c =
    let v = c.core.result.now in
    let region : (renderer_of c.index-chips-2.result).chip.pal ≡ c.pal-pal.result =
    ap (λ (x : Chip). (renderer_of x).chip.pal) (read-chip v c.chips.result.now 2 c.index-chips-2.result c.core.ensures.core c.chips.ensures.value (lit< tt) c.index-chips-2.is)
    ∙ ap (λ (m : MachineValue). m.console.pal) c.core.ensures.value ∙ sym c.pal-pal.ensures.value in
    subst (λ (b : Bool). IfSome (option_copied c.frame_in.result) (λ picture. length picture ≡ picture_length b)) region c.frame_in.ensures.size

pub put_frames-requires-clause-room : goal.put_frames-requires-clause-room
put_frames-requires-clause-room c =
    let v = c.core.result.now in
    let kept = ap frames_of (c.frame_in.ensures.value
    ∙ ap frame_of (read-chip v c.chips.result.now 2 c.index-chips-2.result c.core.ensures.core c.chips.ensures.value (lit< tt) c.index-chips-2.is))
    ∙ ap (λ (v : MachineValue). v.media.frames) c.core.ensures.value in
    subst (λ (b : Bool). vec_len c.args.into.now + frame_length b * length (frames_of (option_copied c.frame_in.result)) ≤ vec_capacity c.args.into.now) (sym c.pal-pal.ensures.value)
    (subst (λ (l : List (List ℕ)). vec_len c.args.into.now + frame_length c.args.self.now.console.pal * length l ≤ vec_capacity c.args.into.now) (sym kept) c.requires)

pub returns-clause-bytes : goal.returns-clause-bytes
returns-clause-bytes c =
    let v = c.core.result.now in
    let kept = ap frames_of (c.frame_in.ensures.value
    ∙ ap frame_of (read-chip v c.chips.result.now 2 c.index-chips-2.result c.core.ensures.core c.chips.ensures.value (lit< tt) c.index-chips-2.is))
    ∙ ap (λ (v : MachineValue). v.media.frames) c.core.ensures.value in
    c.put_frames.ensures.bytes ∙ (λ i. c.args.into.now.items ++ frames_bytes (c.pal-pal.ensures.value i) (kept i))

pub returns-clause-length : goal.returns-clause-length
returns-clause-length c =
    let v = c.core.result.now in
    let kept = ap frames_of (c.frame_in.ensures.value
    ∙ ap frame_of (read-chip v c.chips.result.now 2 c.index-chips-2.result c.core.ensures.core c.chips.ensures.value (lit< tt) c.index-chips-2.is))
    ∙ ap (λ (v : MachineValue). v.media.frames) c.core.ensures.value in
    c.put_frames.ensures.length ∙ (λ i. vec_len c.args.into.now + frame_length (c.pal-pal.ensures.value i) * length (kept i))
