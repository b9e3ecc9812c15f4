-- What a frame leaves of a run from power-on.
use Rattle.std.proofs.Common.{◌≡◌, ◌∙◌, refl, sym, ap, subst, false, ℕ, ◌+◌, ◌*◌, ◌<◌, ◌≤◌, List, [], ◌++◌, Result, Ok, Err, arith}
use Rattle.std.specs.Prelude.{All}
use Rattle.md_word.specs.Clock as clock
use Rattle.md_pads.specs.Recording.{Frame, IsFrame, Recorded, recording_of}
use Rattle.md_pads.specs.declared.version.Version.{Version}
use Rattle.md_pads.specs.declared.version.Version.TheVariants.{First}
use Rattle.md_word.specs.Clock.{frame}
use Rattle.md_word.specs.declared.event.Entry.{Entry}
use Rattle.md_chips.specs.Console.{Console, IsQuiet, IsRunTo, key_in, power_on}
use Rattle.md_chips.specs.Machines.{MachineValue}
use Rattle.md_chips.specs.Media.{Media, joined, no_media}
use Rattle.md_chips.specs.ValidParts.{HasValidParts}
use Rattle.md_chips.proofs.Kept.{cart-stays}
use Rattle.md_chips.proofs.Pads.{pads-recorded}
use Rattle.md_chips.proofs.Regions.{ran_stays}
use Rattle.machine_laws.proofs.SettledMoves.{console-again}
use Rattle.machine_laws.specs.Processors.{IsValid}
use Rattle.machine_laws.specs.Reached.{IsReached}
use Rattle.machine_laws.specs.Settling.{GoesOn}
use Rattle.state_laws.specs.declared.fault.ReplayFault.{ReplayFault}
use Rattle.machine_laws.specs.Recorded.{AreAlikeBelow, with_recording, with_frames}
use Rattle.save_state.specs.States.{settled_console}
use Rattle.md_rollback.specs.Played.{IsImageOf, IsPlayed, IsPlayedAlike, IsRunAt, KeepsReached}

-- the recording of a run is that with which it began
pub recording-is : (cart : List ℕ) (recording : List Frame) (at : ℕ) (m : Console) → IsRunAt cart recording at m → m.shared.recording ≡ recording_of recording
recording-is cart recording at m is =
    ap (λ (x : Console). x.shared.recording) is.same
    ∙ ap (λ (x : Console). x.shared.recording) is.run.console
    ∙ (pads-recorded cart (recording_of recording) false is.run.moves).recording_is

pub frames-are : (cart : List ℕ) (recording : List Frame) (at : ℕ) (m : Console) → IsRunAt cart recording at m → m.shared.recording.frames ≡ recording
frames-are cart recording at m is = ap (λ (r : Recorded). r.frames) (recording-is cart recording at m is)

-- its region is that of power-on
pub region-is : (cart : List ℕ) (recording : List Frame) (at : ℕ) (m : Console) → IsRunAt cart recording at m → m.pal ≡ false
region-is cart recording at m is =
    ap (λ (x : Console). x.pal) is.same
    ∙ ap (λ (x : Console). x.pal) is.run.console
    ∙ (ran_stays (power_on cart (recording_of recording) false) is.run.moves).pal

-- the laws of runs
abbrev pub GoesLaw : Type 0
GoesLaw = (m w z : Console) (at end : ℕ) (entries : List Entry) (output : Media) → HasValidParts m → IsQuiet at m → at ≤ end → end ≤ clock.cycle_limit
    → settled_console at m ≡ settled_console at w → IsRunTo m end z entries output → GoesOn end w z entries output

abbrev pub JoinLaw : Type 0
JoinLaw = (m w z : Console) (s t : ℕ) (entries later_entries : List Entry) (output later_output : Media) → s ≤ t
    → IsRunTo m s w entries output → IsRunTo w t z later_entries later_output
    → IsRunTo m t z (entries ++ later_entries) (joined output later_output)

abbrev pub ReachLaw : Type 0
ReachLaw = (m z : Console) (at end : ℕ) (entries : List Entry) (output : Media) → IsReached at m → at ≤ end → end ≤ clock.cycle_limit
    → IsRunTo m end z entries output → IsReached end z

-- a frame more
pub played-next : (cart : List ℕ) (recording : List Frame) (frames end : ℕ) (old went new : MachineValue) → GoesLaw → JoinLaw → ReachLaw
    → frames < 36000 → end ≡ frame * (frames + 1) → HasValidParts old.console → went.at ≡ end
    → IsRunTo old.console end went.console went.entries went.media → new ≡ record went { entries = []; media = no_media }
    → IsPlayed cart recording frames old → IsPlayed cart recording (frames + 1) new
played-next cart recording frames end old went new goes join reach within is parts at run drained played =
    let until : ℕ = frame * (frames + 1) in
    let from : ℕ = frame * frames in
    let whole : IsRunTo old.console until went.console went.entries went.media = subst (λ (n : ℕ). IsRunTo old.console n went.console went.entries went.media) is run in
    let order : frame * frames ≤ frame * (frames + 1) = omega arith in
    let small : frame * (frames + 1) ≤ clock.cycle_limit = omega (arith, within) in
    let start : IsRunAt cart recording (frame * frames) old.console = played.machine_is.run in
    let on : GoesOn until start.last went.console went.entries went.media =
    goes old.console start.last went.console from until went.entries went.media parts played.reached.start.quiet order small start.same whole in
    subst (IsPlayed cart recording (frames + 1)) (sym drained)
    (record {
      machine_is = record {
        at = at ∙ is;
        run = record {
          last = on.after;
          entries = start.entries ++ went.entries;
          output = joined start.output went.media;
          run = join (power_on cart (recording_of recording) false) start.last on.after from until start.entries went.entries start.output went.media order start.run on.run;
          same = sym on.same;
        };
      };
      cart_is = ap (λ (x : Console). x.cart) whole.console ∙ cart-stays old.console whole.moves ∙ played.cart_is;
      reached = reach old.console went.console from until went.entries went.media played.reached order small whole;
      entries = refl;
      media = refl;
    })

-- the image of a machine that was played
pub image-made : (cart : List ℕ) (spelling : ℕ → Console → List ℕ) (is_own : ℕ → Console → Type 0) (recording : List Frame) (frames : ℕ) (m : MachineValue)
    → IsPlayed cart recording frames m → is_own m.at (settled_console m.at m.console)
    → IsImageOf cart spelling is_own recording frames (spelling m.at (settled_console m.at m.console))
image-made cart spelling is_own recording frames m played own =
    let at : m.at ≡ frame * frames = played.machine_is.at in
    record {
      kept = m.console;
      made_with = recording;
      alike = λ f early. refl;
      run = played.machine_is.run;
      cart_is = played.cart_is;
      reached = played.reached;
      own = subst (λ (n : ℕ). is_own n (settled_console n m.console)) at own;
      all = ap (λ (n : ℕ). spelling n (settled_console n m.console)) at;
    }

-- the last machine of a run from power-on has a recording of the first version
last-first : (cart : List ℕ) (recording : List Frame) (at : ℕ) (last : Console) (entries : List Entry) (output : Media)
    → IsRunTo (power_on cart (recording_of recording) false) at last entries output → last.shared.recording.version ≡ First
last-first cart recording at last entries output run =
    ap (λ (x : Console). x.shared.recording.version) run.console
    ∙ ap (λ (r : Recorded). r.version) (pads-recorded cart (recording_of recording) false run.moves).recording_is

frames-with : (frames : List Frame) (z : Console) → z.shared.recording.version ≡ First → with_frames frames z ≡ with_recording (recording_of frames) z
frames-with frames z first = ap (λ (v : Version). with_recording (record { version = v; frames = frames }) z) first

-- the machine that an image keeps, with another recording
pub resumed : (cart : List ℕ) (spelling : ℕ → Console → List ℕ) (is_own : ℕ → Console → Type 0) (recording : List Frame) (frames : ℕ) (bytes : List ℕ)
    → (is : IsImageOf cart spelling is_own recording frames bytes)
    → ((z : Console) (entries : List Entry) (output : Media) → IsRunTo (power_on cart (recording_of is.made_with) false) (frame * frames) z entries output → IsRunTo (power_on cart (recording_of recording) false) (frame * frames) (with_frames recording z) entries output)
    → IsReached (frame * frames) (with_recording (recording_of recording) (settled_console (frame * frames) is.kept))
    → IsPlayed cart recording frames (record { at = frame * frames; console = with_recording (recording_of recording) (settled_console (frame * frames) is.kept); entries = []; media = no_media })
resumed cart spelling is_own recording frames bytes is later reached = record {
  machine_is = record {
    at = refl;
    run = record {
      last = with_recording (recording_of recording) is.run.last;
      entries = is.run.entries;
      output = is.run.output;
      run = subst (λ (x : Console). IsRunTo (power_on cart (recording_of recording) false) (frame * frames) x is.run.entries is.run.output)
          (frames-with recording is.run.last (last-first cart is.made_with (frame * frames) is.run.last is.run.entries is.run.output is.run.run))
          (later is.run.last is.run.entries is.run.output is.run.run);
      same = ap (with_recording (recording_of recording)) (console-again (frame * frames) is.kept ∙ is.run.same);
    };
  };
  cart_is = is.cart_is;
  reached = reached;
  entries = refl;
  media = refl;
}

abbrev pub LaterLaw : Type 0
LaterLaw = (m z : Console) (one other : List Frame) (end : ℕ) (entries : List Entry) (output : Media) → AreAlikeBelow m.shared.vdp.pal end one other
    → IsRunTo (with_frames one m) end z entries output → IsRunTo (with_frames other m) end (with_frames other z) entries output

abbrev pub SettledLaw : Type 0
SettledLaw = (at : ℕ) (m : Console) (recording : Recorded) → IsReached at m → All IsFrame recording.frames
    → HasValidParts (with_recording recording (settled_console at m)) → IsValid (with_recording recording (settled_console at m)) → IsReached at (with_recording recording (settled_console at m))

pub resumed-machine : (cart : List ℕ) (spelling : ℕ → Console → List ℕ) (is_own : ℕ → Console → Type 0) (recording : List Frame) (frames : ℕ) (bytes : List ℕ) (m : MachineValue)
    → (is : IsImageOf cart spelling is_own recording frames bytes)
    → m ≡ record { at = frame * frames; console = with_recording (recording_of recording) (settled_console (frame * frames) is.kept); entries = []; media = no_media }
    → All IsFrame recording → HasValidParts m.console → IsValid m.console → LaterLaw → SettledLaw → IsPlayed cart recording frames m
resumed-machine cart spelling is_own recording frames bytes m is same buttons parts sound later settled =
    subst (IsPlayed cart recording frames) (sym same)
    (resumed cart spelling is_own recording frames bytes is
    (λ z entries output run. later (power_on cart (recording_of is.made_with) false) z is.made_with recording (frame * frames) entries output is.alike run)
    (settled (frame * frames) is.kept (recording_of recording) is.reached buttons
    (subst (λ (x : MachineValue). HasValidParts x.console) same parts)
    (subst (λ (x : MachineValue). IsValid x.console) same sound)))

-- what holds of each machine that a run reaches holds of it with another recording
reached-with : (at : ℕ) (m : Console) (recording : Recorded) → IsReached at m → All IsFrame recording.frames
    → HasValidParts (with_recording recording m) → IsValid (with_recording recording m) → IsReached at (with_recording recording m)
unfolding key_in
reached-with at m recording reached buttons parts valid = record {
  start = record { quiet = reached.start.quiet; line = reached.start.line; fm = reached.start.fm; psg = reached.start.psg };
  parts = parts;
  processors = record {
    valid = valid;
    main = reached.processors.main;
    sub = reached.processors.sub;
    one_cart = reached.processors.one_cart;
    one_owner = reached.processors.one_owner;
    resets = reached.processors.resets;
  };
  video = record { rules = reached.video.rules; renderer_state = reached.video.renderer_state; near = reached.video.near };
  lines = record { resets = reached.lines.resets; recording = buttons; pads = reached.lines.pads; falls1 = reached.lines.falls1; falls2 = reached.lines.falls2 };
  writes = record { fm = reached.writes.fm; psg = reached.writes.psg; fm_early = reached.writes.fm_early; psg_early = reached.writes.psg_early };
  timers = reached.timers;
}

-- a machine that was played with another recording, whose frames so far were the same
pub exchanged : (cart : List ℕ) (recording : List Frame) (frames : ℕ) (m : MachineValue) → (is : IsPlayedAlike cart recording frames m)
    → ((z : Console) (entries : List Entry) (output : Media) → IsRunTo (power_on cart (recording_of is.made_with) false) (frame * frames) z entries output → IsRunTo (power_on cart (recording_of recording) false) (frame * frames) (with_frames recording z) entries output)
    → IsReached (frame * frames) (with_recording (recording_of recording) m.console)
    → IsPlayed cart recording frames (record m { console = with_recording (recording_of recording) m.console })
exchanged cart recording frames m is later reached =
    let start : IsRunAt cart is.made_with (frame * frames) m.console = is.played.machine_is.run in
    record {
      machine_is = record {
        at = is.played.machine_is.at;
        run = record {
          last = with_recording (recording_of recording) start.last;
          entries = start.entries;
          output = start.output;
          run = subst (λ (x : Console). IsRunTo (power_on cart (recording_of recording) false) (frame * frames) x start.entries start.output)
              (frames-with recording start.last (last-first cart is.made_with (frame * frames) start.last start.entries start.output start.run))
              (later start.last start.entries start.output start.run);
          same = ap (with_recording (recording_of recording)) start.same;
        };
      };
      cart_is = is.played.cart_is;
      reached = reached;
      entries = is.played.entries;
      media = is.played.media;
    }

pub exchanged-machine : (cart : List ℕ) (recording : List Frame) (frames : ℕ) (old new : MachineValue) → IsPlayedAlike cart recording frames old
    → new ≡ record old { console = with_recording (recording_of recording) old.console }
    → All IsFrame recording → HasValidParts new.console → IsValid new.console → LaterLaw → IsPlayed cart recording frames new
exchanged-machine cart recording frames old new is same buttons parts valid later =
    subst (IsPlayed cart recording frames) (sym same)
    (exchanged cart recording frames old is
    (λ z entries output run. later (power_on cart (recording_of is.made_with) false) z is.made_with recording (frame * frames) entries output is.alike run)
    (reached-with (frame * frames) old.console (recording_of recording) is.played.reached buttons
    (subst (λ (x : MachineValue). HasValidParts x.console) same parts)
    (subst (λ (x : MachineValue). IsValid x.console) same valid)))

pub ok-no-err : (m : MachineValue) (e : ReplayFault) → Ok m ≡ Err e → ⊥
ok-no-err m e same = cc

pub same-ok : (m w : MachineValue) → ◌≡◌ {A = Result MachineValue ReplayFault} (Ok m) (Ok w) → m ≡ w
same-ok m w same = cc

-- a machine that was played may be kept
pub may-be-kept : (cart : List ℕ) (is_ready : ℕ → Console → Type 0) (recording : List Frame) (frames : ℕ) (m : MachineValue) → frames < 36000
    → KeepsReached cart is_ready → IsPlayed cart recording (frames + 1) m → is_ready m.at m.console
may-be-kept cart is_ready recording frames m within keeps played =
    let at : m.at ≡ frame * (frames + 1) = played.machine_is.at in
    subst (λ (n : ℕ). is_ready n m.console) (sym at)
    (keeps.later (frame * (frames + 1)) m.console (omega arith) (omega (arith, within)) played.cart_is played.reached)
