-- The machines of a session have images.
use Rattle.std.proofs.Common.{◌≡◌, ℕ, ◌≤◌, List, [], ◌∷◌, Result, Ok, Err, refl, ap, subst, ◌∙◌}
use Rattle.std.specs.Prelude.{IfOk, OnErr}
use Rattle.md_debug.specs.Kept.{padded}
use Rattle.text_lines.specs.Lines.{lines_of}
use Rattle.md_outer.specs.Outside.{SinkState}
use Rattle.md_outer.specs.declared.sink.Failed.{Failed}
use Rattle.debug_text.proofs.Scripts.{first_none}
use Rattle.md_debug.specs.Scripts.{ObeysLine, Plays, PutsReplies, StopsAtReply, replied}
use Rattle.md_debug.specs.declared.fault.DebugFault.{DebugFault}
use Rattle.debug_text.specs.declared.outcome.ScriptOutcome.{ScriptOutcome}
use Rattle.debug_text.specs.declared.outcome.ScriptOutcome.TheVariants.{OutOfMemory}
use Rattle.md_debug.specs.Opened.{PlaysScript, PutsScript, StopsScript, images_with, opened}
use Rattle.md_debug.specs.Sessions.{SessionValue}
use Rattle.md_word.specs.Clock.{last_cycle}
use Rattle.md_word.specs.declared.event.Entry.{Entry}
use Rattle.md_chips.specs.Console.{Console, IsRunTo}
use Rattle.md_chips.specs.Machines.{MachineValue}
use Rattle.md_chips.specs.Media.{Media}
use Rattle.md_debug.specs.Keeping.{KeepsMachines}
use Rattle.state_laws.specs.Images.{HasImage, ImagesValue, Keeps, drained, first_of, image_of, settled_of, size_of}

pub machines_kept : (images : ImagesValue)
    → ((images : ImagesValue) (m : MachineValue) (z : Console) (end : ℕ) (entries : List Entry) (output : Media) → HasImage images m → m.at ≤ end → end ≤ last_cycle
    → IsRunTo m.console end z entries output → HasImage images (drained end z))
    → KeepsMachines (HasImage images) (settled_of images)
machines_kept images runs = record {
  start = λ m has. has.reached.start;
  near = λ m has. has.near;
  entries = λ m has. has.entries;
  media = λ m has. has.media;
  cycle = λ m has. refl;
  runs = λ m end z entries output has later near run. runs images m z end entries output has later near run;
}

-- the session at power-on
pub opened_is : {E : Type 0} (r : Result (SessionValue ImagesValue) E) (images : ImagesValue) (machine : MachineValue) → machine ≡ first_of images
    → IfOk r (λ s. s.images ≡ images) → IfOk r (λ s. s.machine ≡ machine) → IfOk r (λ s. s.states ≡ padded (image_of images machine) ∷ []) → IfOk r (λ s. s.cycles ≡ machine.at ∷ [])
    → IfOk r (λ s. s.begun ≡ []) → IfOk r (λ s. s ≡ opened images)
opened_is (Ok session) images machine first same there states cycles begun =
    let machine_is : session.machine ≡ first_of images = there ∙ first in
    let states_are : session.states ≡ padded (image_of images (first_of images)) ∷ [] = states ∙ ap (λ (m : MachineValue). padded (image_of images m) ∷ []) first in
    let cycles_are : session.cycles ≡ 0 ∷ [] = cycles ∙ ap (λ (m : MachineValue). m.at ∷ []) first in
    λ i. record { images = same i; machine = machine_is i; states = states_are i; cycles = cycles_are i; begun = begun i }
opened_is (Err fault) images machine first same there states cycles begun = tt

-- no line is obeyed
pub plays_none : (cart script : List ℕ) → PlaysScript cart script [] OutOfMemory
plays_none cart script =
    let session : SessionValue ImagesValue = opened (images_with cart) in
    record { after = session; plays = (session, ([], lines_of script, first_none (ObeysLine size_of image_of Keeps) (lines_of script) (replied session []))) }

-- what is put in the session at power-on
pub puts_script : (observable : Type 0) (cart script : List ℕ) (old new : SessionValue ImagesValue) (out out' : SinkState) (result : Result (ScriptOutcome DebugFault) Failed) → old ≡ opened (images_with cart)
    → IfOk result (λ script_outcome. PutsReplies size_of image_of Keeps observable (lines_of script) old new out out' script_outcome) → IfOk result (λ script_outcome. PutsScript observable cart script out out' script_outcome)
puts_script observable cart script old new out out' (Err failed) is put = tt
puts_script observable cart script old new out out' (Ok script_outcome) is put = record {
  replies = put.replies;
  plays = record {
    after = new;
    plays = subst (λ (s : SessionValue ImagesValue). Plays size_of image_of Keeps (lines_of script) s new put.replies script_outcome) is put.plays;
  };
  puts = put.puts;
}

pub stops_script : (observable : Type 0) (cart script : List ℕ) (old new : SessionValue ImagesValue) (out out' : SinkState) (result : Result (ScriptOutcome DebugFault) Failed) → old ≡ opened (images_with cart)
    → OnErr result (StopsAtReply size_of image_of Keeps observable (lines_of script) old new out out') → OnErr result (StopsScript observable cart script out out')
stops_script observable cart script old new out out' (Ok script_outcome) is stops = tt
stops_script observable cart script old new out out' (Err failed) is stops = record {
  after = new;
  stops = subst (λ (s : SessionValue ImagesValue). StopsAtReply size_of image_of Keeps observable (lines_of script) s new out out') is stops;
}
