-- The images of machines, and the machines of images.
use Rattle.std.proofs.Common.{◌≡◌, ◌⊎◌, inl, inr, ℕ, zero, suc, ◌≤◌, List, [], Result, Ok, Err, refl, sym, ap, subst, ◌∙◌, arith}
use Rattle.std.specs.Global.{Vec}
use Rattle.std.specs.Prelude.{IfOk}
use Rattle.md_word.specs.Clock as clock
use Rattle.md_word.specs.Clock.{last_cycle}
use Rattle.md_word.specs.declared.event.Entry.{Entry}
use Rattle.md_chips.specs.Console.{AllBelow, Console, IsRunTo, power_on, ran}
use Rattle.md_chips.specs.Machines.{MachineValue}
use Rattle.md_chips.specs.Media.{Media, no_media}
use Rattle.md_chips.specs.Starts.{Start}
use Rattle.md_chips.proofs.Kept.{cart-stays}
use Rattle.machine_laws.specs.Reached.{IsReached}
use Rattle.save_state.specs.Ready.{IsReady}
use Rattle.save_state.specs.States.{settled_console}
use Rattle.save_state.specs.Versions.{IsState}
use Rattle.save_state.proofs.PowerOn.{first_is_none, first_settled}
use Rattle.state_laws.proofs.Whole.{one_machine}
use Rattle.state_laws.specs.Images.{HasImage, ImagesValue, Keeps, drained, first, first_of, image_of, settled_of, start_of, state}
use Rattle.state_laws.proofs.Recordings.{recording_stays}

-- ---- machines with images

first_or_later : (n : ℕ) → (n ≡ 0) ⊎ (1 ≤ n)
first_or_later zero = inl refl
first_or_later (suc n) = inr (omega arith)

pub first_has : (images : ImagesValue) → IsReached 0 (power_on images.cart images.recording images.pal) → HasImage images (first_of images)
first_has images reached = record {
  cart = refl;
  recording = refl;
  near = omega arith;
  reached = reached;
  first = λ zero. refl;
  entries = refl;
  media = refl;
}

-- a run that ends at cycle 0 has no move
no_moves : (m : Console) (end n : ℕ) → end ≡ 0 → AllBelow m end n → n ≡ 0
no_moves m end zero none below = refl
no_moves m end (suc n) none below = absurd (let one = below n (omega arith) in omega (arith, one, none))

ran_none : (m : Console) (n : ℕ) → n ≡ 0 → ran m n ≡ m
unfolding ran
ran_none m n none = ap (ran m) none

pub run_has : (images : ImagesValue) (m : MachineValue) (z : Console) (end : ℕ) (entries : List Entry) (output : Media)
    → ((m z : Console) (at end : ℕ) (entries : List Entry) (output : Media) → IsReached at m → at ≤ end → end ≤ clock.cycle_limit → IsRunTo m end z entries output → IsReached end z)
    → HasImage images m → m.at ≤ end → end ≤ last_cycle → IsRunTo m.console end z entries output → HasImage images (drained end z)
run_has images m z end entries output reach has later near run = record {
  cart = ap (λ (x : Console). x.cart) run.console ∙ cart-stays m.console run.moves ∙ has.cart;
  recording = ap (λ (x : Console). x.shared.recording) run.console ∙ recording_stays m.console run.moves ∙ has.recording;
  near = near;
  reached = reach m.console z m.at end entries output has.reached later (omega (arith, near)) run;
  first = λ none.
      let at : m.at ≡ 0 = omega (arith, later, none) in
      let same : z ≡ m.console = run.console ∙ ran_none m.console run.moves (no_moves m.console end run.moves none run.below) in
      (λ i. drained (none i) (same i)) ∙ ap (λ (x : MachineValue). drained 0 x.console) (has.first at);
  entries = refl;
  media = refl;
}

-- ---- the image of a machine

settled_first : (images : ImagesValue) (m : MachineValue) → m ≡ first_of images → settled_of images m ≡ first_of images
settled_first images m is = ap (settled_of images) is ∙ ap (drained 0) (first_settled images.cart images.recording images.pal)

pub image_kept : (images : ImagesValue) (m : MachineValue) (bytes : List ℕ) → HasImage images m
    → ((at : ℕ) (z : Console) → 1 ≤ at → at ≤ last_cycle → IsReached at z → IsReady at z)
    → (IsReady m.at m.console → IsState m.console.cart bytes (record { at = m.at; console = settled_console m.at m.console }))
    → bytes ≡ image_of images m → Keeps images bytes (settled_of images m)
image_kept images m bytes has ready kept all = elim (first_or_later m.at) [
  | inl none ↦ (let is = has.first none in first (all ∙ ap (image_of images) is) (settled_first images m is))
  | inr some ↦
      state
      (subst (λ (cart : List ℕ). IsState cart bytes (record { at = m.at; console = settled_console m.at m.console })) has.cart (kept (ready m.at m.console some has.near has.reached)))
      has.recording refl
]

pub image_made : {E : Type 0} (images : ImagesValue) (m : MachineValue) (r : Result (Vec ℕ) E) → HasImage images m
    → ((at : ℕ) (z : Console) → 1 ≤ at → at ≤ last_cycle → IsReached at z → IsReady at z)
    → (IsReady m.at m.console → IfOk r (λ bytes. IsState m.console.cart bytes.items (record { at = m.at; console = settled_console m.at m.console })))
    → IfOk r (λ bytes. bytes.items ≡ image_of images m) → IfOk r (λ bytes. Keeps images bytes.items (settled_of images m))
image_made images m (Ok bytes) has ready kept all = image_kept images m bytes.items has ready kept all
image_made images m (Err fault) has ready kept all = tt

-- ---- the machine of an image

pub only_first : (images : ImagesValue) (bytes : List ℕ) (m : MachineValue) → bytes ≡ image_of images (first_of images) → Keeps images bytes m → m ≡ first_of images
only_first images bytes m is (state saved recording whole) =
    absurd (first_is_none images.cart images.recording images.pal (start_of m) (subst (λ (l : List ℕ). IsState images.cart l (start_of m)) is saved))
only_first images bytes m is (first all same) = same

pub keep_one : (images : ImagesValue) (bytes : List ℕ) (a b : MachineValue) → Keeps images bytes a → Keeps images bytes b → a ≡ b
keep_one images bytes a b (first all same) keeps = same ∙ sym (only_first images bytes b all keeps)
keep_one images bytes a b keeps (first all same) = only_first images bytes a all keeps ∙ sym same
keep_one images bytes a b (state saved recording whole) (state saved' recording' whole') =
    whole
    ∙ ap (λ (s : Start). drained s.at s.console) (one_machine images.cart images.recording bytes (start_of a) (start_of b) saved recording saved' recording')
    ∙ sym whole'

-- a machine that is read has an image
pub state_has : (images : ImagesValue) (bytes : List ℕ) (m : MachineValue) → IsState images.cart bytes (start_of m) → m.console.shared.recording ≡ images.recording
    → IsReached m.at m.console → m.entries ≡ [] → m.media ≡ no_media → HasImage images m
state_has images bytes m saved recording reached entries media = record {
  cart = saved.newest.saved.image;
  recording = recording;
  near = saved.newest.saved.near;
  reached = reached;
  first = λ none. absurd (omega (arith, none, saved.newest.saved.begun));
  entries = entries;
  media = media;
}

-- and is the one that the bytes keep, which are not those of power-on
pub only_read : (images : ImagesValue) (bytes : List ℕ) (machine m : MachineValue)
    → ((start : Start) → IsState images.cart bytes start → start.console.shared.recording ≡ images.recording → machine ≡ drained start.at start.console)
    → (bytes ≡ image_of images (first_of images) → ⊥) → Keeps images bytes m → machine ≡ m
only_read images bytes machine m read other (state saved recording whole) = read (start_of m) saved recording ∙ sym whole
only_read images bytes machine m read other (first all same) = absurd (other all)

pub none_read : (images : ImagesValue) (bytes : List ℕ) (m : MachineValue)
    → ((start : Start) → IsState images.cart bytes start → start.console.shared.recording ≡ images.recording → ⊥)
    → (bytes ≡ image_of images (first_of images) → ⊥) → Keeps images bytes m → ⊥
none_read images bytes m read other (state saved recording whole) = read (start_of m) saved recording
none_read images bytes m read other (first all same) = other all
