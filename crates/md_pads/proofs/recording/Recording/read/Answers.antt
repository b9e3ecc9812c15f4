use Rattle.std.proofs.Common.{◌≡◌, ◌∙◌, ◌+◌, ℕ, Ok, Err, drop, subst, ap, arith}
use Rattle.md_pads.specs.declared.fault.RecFault.TheVariants.{Form}
use Rattle.md_pads.specs.Recording.{InvalidAt, Recorded}
use Rattle.md_pads.proofs.Opening.{of}
use Rattle.md_pads.proofs.Whole.{read_spelled, one_recording, spelled_len, same_place}
use Rattle.md_pads.proofs.recording.Recording.read.Goals as goal

pub returns-in-Err-clause-form : goal.returns-in-Err-clause-form
returns-in-Err-clause-form c = λ place. (
  λ same. let e : c.in-Err.place ≡ place = cc in subst (InvalidAt c.args.bytes.now) e c.in-Err.ensures.invalid,
  λ other. ap (λ (n : ℕ). Err (Form n)) (same_place c.args.bytes.now c.in-Err.place place c.in-Err.ensures.invalid.longest other.longest),
)

pub split_at-requires : goal.split_at-requires
split_at-requires c = let long = (spelled_len c.in-Ok.version c.args.bytes.now c.in-Ok.ensures.found).1 in omega (arith, c.start.ensures.place)

pub invariant_of-result : goal.invariant_of-result
invariant_of-result c =
    (read_spelled c.in-Ok.version c.args.bytes.now c.split_at.result.1.now c.in_ok-frames.frames.items c.in-Ok.ensures.found (c.split_at.ensures.back ∙ ap (λ n. drop (n + 4) c.args.bytes.now) c.start.ensures.place) c.in_ok-frames.ensures).recording

pub returns-clause-found : goal.returns-clause-found
returns-clause-found c =
    read_spelled c.in-Ok.version c.args.bytes.now c.split_at.result.1.now c.in_ok-frames.frames.items c.in-Ok.ensures.found (c.split_at.ensures.back ∙ ap (λ n. drop (n + 4) c.args.bytes.now) c.start.ensures.place) c.in_ok-frames.ensures

pub returns-clause-only : goal.returns-clause-only
returns-clause-only c = λ recorded spelled _.
    let read = read_spelled c.in-Ok.version c.args.bytes.now c.split_at.result.1.now c.in_ok-frames.frames.items c.in-Ok.ensures.found (c.split_at.ensures.back ∙ ap (λ n. drop (n + 4) c.args.bytes.now) c.start.ensures.place) c.in_ok-frames.ensures in
    ap (λ (r : Recorded). Ok r) (one_recording c.args.bytes.now (of c.in-Ok.version c.in_ok-frames.frames.items) recorded read spelled)
