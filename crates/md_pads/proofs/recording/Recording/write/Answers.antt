use Rattle.std.proofs.Common.{◌≡◌, ℕ, Result, Ok, Err}
use Rattle.std.specs.Prelude.{IfOk}
use Rattle.std.specs.declared.alloc.AllocError.{AllocError}
use Rattle.std.specs.Global.{Vec}
use Rattle.md_pads.specs.Recording.{IsRecording, Recorded, Spells, spelling}
use Rattle.md_pads.proofs.Whole.{one_recording}
use Rattle.md_pads.proofs.recording.Recording.write.Goals as goal

-- bytes that spell this recording spell no other
only : (r : Result (Vec ℕ) AllocError) (recorded : Recorded) → IsRecording recorded → IfOk r (λ bytes. bytes.items ≡ spelling recorded) → IfOk r (λ bytes. (other : Recorded) → Spells bytes.items other → other ≡ recorded)
only (Ok bytes) recorded recording spelled = λ other spells. one_recording bytes.items other recorded spells (record { recording = recording; all = spelled })
only (Err e) recorded recording spelled = tt

pub returns-clause-only : goal.returns-clause-only
returns-clause-only c =
    rw (← c.self.view_is) (only c.write.result (record { version = c.self.inside.version; frames = c.self.inside.frames.items }) c.self.invariant (rw (← c.deref.ensures.value) c.write.ensures))
