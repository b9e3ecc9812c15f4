-- What holds of a session between commands.
use Rattle.std.proofs.Common.{◌≡◌, ℕ, ◌<◌, ◌≤◌, List, [], ◌∷◌, length, take, drop, sym, ap, subst, ◌∙◌, arith}
use Rattle.std.proofs.lemmas.List.{length-drop}
use Rattle.circular_buffer.specs.Buffer.{Buffer}
use Rattle.md_word.specs.Clock.{last_cycle}
use Rattle.md_chips.specs.Machines.{MachineValue}
use Rattle.page_ring.specs.Kept.{IsPushed}
use Rattle.md_debug.specs.Kept.{KeptValue, all_pages, padded, per_state, state_size}
use Rattle.md_debug.specs.Debuggees.{IsDebuggee}
use Rattle.md_debug.specs.declared.debuggee.Debuggee.{Debuggee}
use Rattle.md_debug.specs.Going.{RunsTo, Steps, drained, start_of}
use Rattle.md_debug.specs.Keeping.{IsSession, KeepsMachines}
use Rattle.md_debug.proofs.Images.{images_dropped, images_pushed}
use Rattle.md_debug.proofs.Runs.{own_run, own_steps}

-- a debuggee holds no output
drained_is : (d : Debuggee) → IsDebuggee d → drained (start_of d.machine) ≡ d.machine
drained_is d ready = λ i. record { at = d.machine.at; console = d.machine.console; entries = sym ready.entries i; media = sym ready.media i }

module _ (size : ℕ) (is_own : MachineValue → Type 0) (keeps : List ℕ → MachineValue → Type 0) (read_back : MachineValue → MachineValue) where
  pub session_made : (d : Debuggee) (old new : KeptValue) (image : List ℕ) (at : ℕ) → KeepsMachines is_own read_back → is_own d.machine → IsDebuggee d → size ≤ state_size
      → old.states ≡ [] → old.cycles ≡ [] → length image ≡ size → keeps image (read_back d.machine) → at ≡ d.machine.at
      → IsPushed all_pages per_state old.states (padded image) new.states → new.cycles ≡ take (length new.states) (at ∷ old.cycles)
      → IsSession size is_own keeps read_back d new
  session_made d old new image at machines own ready fits none bare long kept at_is pushed cycles = record {
    machines = machines;
    own = own;
    ready = ready;
    images =
        images_pushed size keeps (read_back d.machine) image at old.states new.states old.cycles new.cycles
        (record { as_many = (λ i. length (bare i)) ∙ (λ i. length (sym none i)); machine = λ i within. absurd (omega (arith, within, ap length none)) })
        long kept (machines.cycle d.machine own ∙ sym at_is) pushed cycles;
    fits = fits;
    some = omega (arith, ap length pushed.states);
  }

  pub session_pushed : (d : Debuggee) (old new : KeptValue) (image : List ℕ) (at : ℕ) → IsSession size is_own keeps read_back d old → length image ≡ size → keeps image (read_back d.machine)
      → at ≡ d.machine.at → IsPushed all_pages per_state old.states (padded image) new.states → new.cycles ≡ take (length new.states) (at ∷ old.cycles)
      → IsSession size is_own keeps read_back d new
  session_pushed d old new image at session long kept at_is pushed cycles = record {
    machines = session.machines;
    own = session.own;
    ready = session.ready;
    images = images_pushed size keeps (read_back d.machine) image at old.states new.states old.cycles new.cycles session.images long kept (session.machines.cycle d.machine session.own ∙ sym at_is) pushed cycles;
    fits = session.fits;
    some = omega (arith, ap length pushed.states);
  }

  pub session_stepped : (old new : Debuggee) (kept : KeptValue) (n : ℕ) (begun : List ℕ) → IsSession size is_own keeps read_back old kept
      → Steps n (start_of old.machine) (start_of new.machine) begun → IsDebuggee new → IsSession size is_own keeps read_back new kept
  session_stepped old new kept n begun session steps ready = record {
    machines = session.machines;
    own =
        subst is_own (drained_is new ready)
        (own_steps is_own read_back session.machines n (start_of old.machine) (start_of new.machine) begun (subst is_own (sym (drained_is old session.ready)) session.own) steps);
    ready = ready;
    images = session.images;
    fits = session.fits;
    some = session.some;
  }

  pub session_ran : (old new : Debuggee) (kept : KeptValue) (end : ℕ) (begun : List ℕ) → IsSession size is_own keeps read_back old kept → end ≤ last_cycle
      → RunsTo end (start_of old.machine) (start_of new.machine) begun → IsDebuggee new → IsSession size is_own keeps read_back new kept
  session_ran old new kept end begun session near runs ready = record {
    machines = session.machines;
    own =
        subst is_own (drained_is new ready)
        (own_run is_own read_back session.machines end (start_of old.machine) (start_of new.machine) begun near (subst is_own (sym (drained_is old session.ready)) session.own) runs);
    ready = ready;
    images = session.images;
    fits = session.fits;
    some = session.some;
  }

  pub session_back : (old new : Debuggee) (kept after : KeptValue) (n : ℕ) → IsSession size is_own keeps read_back old kept → is_own new.machine → new.begun ≡ old.begun
      → n < length kept.states → after ≡ record kept { states = drop n kept.states; cycles = drop n kept.cycles } → IsSession size is_own keeps read_back new after
  session_back old new kept after n session own begun there is =
      let ready = session.ready in
      subst (IsSession size is_own keeps read_back new) (sym is)
      (record {
        machines = session.machines;
        own = own;
        ready = record {
          start = session.machines.start new.machine own;
          entries = session.machines.entries new.machine own;
          media = session.machines.media new.machine own;
          most = ap (λ (b : Buffer ℕ). b.capacity) begun ∙ ready.most;
          few = omega (arith, ready.few, ap (λ (b : Buffer ℕ). length b.items) begun);
        };
        images = images_dropped size keeps n kept.states kept.cycles session.images;
        fits = session.fits;
        some = omega (arith, there, length-drop n kept.states);
      })
