-- A session of the debugger at power-on, and the outcome of a script in it. This project's profile.
use Rattle.std.specs.Prelude.{ℕ, false, List, [], ◌∷◌}
use Rattle.md_debug.specs.Kept.{padded}
use Rattle.text_lines.specs.Lines.{lines_of}
use Rattle.md_debug.specs.Scripts.{Plays, PutsWhole, StopsAtReply}
use Rattle.md_debug.specs.declared.fault.DebugFault.{DebugFault}
use Rattle.debug_text.specs.declared.outcome.ScriptOutcome.{ScriptOutcome}
use Rattle.md_outer.specs.Outside.{SinkState}
use Rattle.md_pads.specs.Recording.{no_frames}
use Rattle.md_debug.specs.Sessions.{SessionValue}
use Rattle.state_laws.specs.Images.{ImagesValue, Keeps, first_of, image_of, size_of}

-- the images of the machines of a cartridge on NTSC, of which no button is pressed
abbrev pub images_with : List ℕ → ImagesValue
images_with cart = record { cart = cart; recording = no_frames; pal = false }

-- the session at power-on: the machine is kept, and no instruction was begun
abbrev pub opened : ImagesValue → SessionValue ImagesValue
opened images = record {
  images = images;
  machine = first_of images;
  states = padded (image_of images (first_of images)) ∷ [];
  cycles = 0 ∷ [];
  begun = [];
}

-- the lines of a script have these replies and this outcome, in the session at power-on of a cartridge
pub record PlaysScript (cart script : List ℕ) (replies : List ℕ) (script_outcome : ScriptOutcome DebugFault) : Type 0 where
  pub after : SessionValue ImagesValue
  pub plays : Plays size_of image_of Keeps (lines_of script) (opened (images_with cart)) after replies script_outcome

-- the lines of a script have this outcome there, and the replies to those that were obeyed were written
pub record PutsScript (observable : Type 0) (cart script : List ℕ) (out out' : SinkState) (script_outcome : ScriptOutcome DebugFault) : Type 0 where
  pub replies : List ℕ
  pub plays : PlaysScript cart script replies script_outcome
  pub puts : PutsWhole observable replies out out'

-- a reply to a line of a script could not be written there: the replies before it were written, and a prefix of
-- it
pub record StopsScript (observable : Type 0) (cart script : List ℕ) (out out' : SinkState) : Type 0 where
  pub after : SessionValue ImagesValue
  pub stops : StopsAtReply size_of image_of Keeps observable (lines_of script) (opened (images_with cart)) after out out'
