-- Reads and writes of each size follow their one access.
use Rattle.std.proofs.Common.{◌≡◌, ℕ, ◌+◌, ◌%◌, ◌^◌, ◌≤◌, Bool, true, false, nat_lt, List, [], ◌∷◌, ◌++◌, All, length, Ok, refl, sym, subst, arith}
use Rattle.std.specs.Prelude.{IsFalse, IsTrue, if◌then◌else◌}
use Rattle.std.proofs.lemmas.Bool.Decides.{nat_tests}
use Rattle.std.proofs.lemmas.List.Elements.{All-cons, All-nil}
use Rattle.md_word.specs.Map.{is_shared}
use Rattle.md_word.specs.declared.main_bus.Request68.{Request68}
use Rattle.md_word.specs.declared.main_bus.Request68.TheVariants.{Read8, Read16, Write8, Write16}
use Rattle.md_word.specs.declared.size.Size.{Size}
use Rattle.md_word.specs.declared.size.Size.TheVariants.{Byte, Word, Long}
use Rattle.m68k_access.proofs.Taken.{answered, unanswered, with_byte-used, with_word-used}
use Rattle.m68k_access.specs.Actions as actions
use Rattle.md_word.specs.Answers.{Done}
use Rattle.m68k_access.specs.Actions.{Act}
use Rattle.m68k_access.specs.Memory.{Memory, bus_address}
use Rattle.m68k_laws.proofs.Follows.{AsksAlong, EndsAlong, FaultsAlong, Follows, GoesAlong, bind, give, last, numbered}
use Rattle.m68k_laws.specs.Accesses.{Access, IsEven, Kind, Read, Write, is_odd, is_read, one, shared, words}
use Rattle.m68k_laws.specs.Laws.{LeadsTo, Requests}

-- by a test, with what it reports
pub split : {A : Type 0} (list : List Access) (test : Bool) (one other : Act A) → (test ≡ true → Follows list one) → (test ≡ false → Follows list other) → Follows list (λ memory done. if test then one memory done else other memory done)
split list true one other h k = h refl
split list false one other h k = k refl

-- one word of a list that has no other
alone : (access : Access) → LeadsTo (access ∷ []) 0 access
alone access = record { before = []; following = []; split = refl; even = All-nil IsEven; counted = refl }

alone_even : (access : Access) → IsEven access → All IsEven (access ∷ [])
alone_even access h = All-cons IsEven access [] h (All-nil IsEven)

shared_alone : (access : Access) → IsTrue (is_shared (bus_address access.address)) → 1 ≡ length (shared (access ∷ []))
shared_alone access h = rw h refl

private_alone : (access : Access) → IsFalse (is_shared (bus_address access.address)) → 0 ≡ length (shared (access ∷ []))
private_alone access h = rw h refl

-- a shared access waits for its answer, and takes it
asked_by : (access : Access) (request : Request68) (memory : Memory) (before : Done) (test : Bool) → nat_lt before.used (length memory.answers) ≡ test → IsEven access → IsTrue (is_shared (bus_address access.address)) → Requests access.kind access.size access.address request → before.used ≤ length memory.answers → GoesAlong (access ∷ []) (length memory.answers) before.used (actions.asked request memory before)
asked_by access request memory before true is even h r within =
    let ends : EndsAlong (access ∷ []) (length memory.answers) before.used (before.used + 1) = record {
      taken = 1;
      used = refl;
      enough = grind (arith, nat_tests);
      completes = record { even = alone_even access even; counted = shared_alone access h };
    } in
    subst (λ result. GoesAlong (access ∷ []) (length memory.answers) before.used result) (sym (answered request memory before is)) ends
asked_by access request memory before false is even h r within =
    let asks : AsksAlong (access ∷ []) (length memory.answers) before.used request = record {
      taken = 0;
      used = grind (arith, nat_tests);
      waits = record { access = access; numbered = numbered (access ∷ []) 0 access (alone access) h; leads = alone access; even = even; shared = h; request = r };
    } in
    subst (λ result. GoesAlong (access ∷ []) (length memory.answers) before.used result) (sym (unanswered request memory before is)) asks

asked : (access : Access) (request : Request68) → words (access ∷ []) ≡ access ∷ [] → IsEven access → IsTrue (is_shared (bus_address access.address)) → Requests access.kind access.size access.address request → Follows (access ∷ []) (actions.asked request)
asked access request whole even h r = record {
  along = λ memory before within.
      subst (λ list. GoesAlong list (length memory.answers) before.used (actions.asked request memory before)) (sym whole)
      (asked_by access request memory before (nat_lt before.used (length memory.answers)) refl even h r within);
}

-- a private access takes none
private_by : {A : Type 0} (access : Access) (f : Memory → Done → A) (g : Done → Done) (memory : Memory) (before : Done) → (g before).used ≡ before.used → IsEven access → IsFalse (is_shared (bus_address access.address)) → before.used ≤ length memory.answers → EndsAlong (access ∷ []) (length memory.answers) before.used (g before).used
private_by access f g memory before kept even h within = record {
  taken = 0;
  used = omega (arith, kept);
  enough = omega (arith, kept, within);
  completes = record { even = alone_even access even; counted = private_alone access h };
}

private : {A : Type 0} (access : Access) (f : Memory → Done → A) (g : Done → Done) → ((done : Done) → (g done).used ≡ done.used) → words (access ∷ []) ≡ access ∷ [] → IsEven access → IsFalse (is_shared (bus_address access.address)) → Follows (access ∷ []) (λ memory done. Ok (f memory done, g done))
private access f g kept whole even h = record {
  along = λ memory before within.
      subst (λ list. EndsAlong list (length memory.answers) before.used (g before).used) (sym whole)
      (private_by access f g memory before (kept before) even h within);
}

-- an address error at the first word
pub odd_first : {A : Type 0} (list : List Access) (first : Access) (rest : List Access) → words list ≡ first ∷ rest → IsTrue (is_odd first) → Follows list (actions.odd {A = A} first.address (is_read first.kind))
odd_first list first rest is odd = record {
  along = λ memory before within.
      subst (λ list. FaultsAlong list (length memory.answers) before.used before.used first.address (is_read first.kind)) (sym is) (record {
        taken = 0;
        used = omega arith;
        enough = within;
        faults = record {
          access = first;
          leads = record { before = []; following = rest; split = refl; even = All-nil IsEven; counted = refl };
          odd = odd;
          address = refl;
          read = refl;
        };
      });
}

-- one access
abbrev access_of : Kind → Size → ℕ → Access
access_of kind size address = record { kind = kind; size = size; address = address }

-- reads
asked_byte : (address : ℕ) → IsTrue (is_shared (bus_address address)) → Follows (one Read Byte address) (actions.asked_byte (bus_address address))
unfolding actions.asked_byte
asked_byte address h = last _ _ _ (asked (access_of Read Byte address) (Read8 (bus_address address)) refl refl h refl) (λ answer. give _)

byte_seen : (address : ℕ) → IsFalse (is_shared (bus_address address)) → Follows (one Read Byte address) (λ memory done. Ok (actions.byte_seen (bus_address address) memory done, done))
byte_seen address h = private (access_of Read Byte address) (actions.byte_seen (bus_address address)) (λ done. done) (λ done. refl) refl refl h

pub read_byte : (address : ℕ) → Follows (one Read Byte address) (actions.read_byte address)
unfolding actions.read_byte
read_byte address = split _ (is_shared (bus_address address)) _ _ (asked_byte address) (byte_seen address)

read_aligned : (address : ℕ) → actions.is_odd address ≡ false → Follows (one Read Word address) (actions.read_aligned (bus_address address))
unfolding actions.read_aligned
read_aligned address even =
    split _ (is_shared (bus_address address)) _ _
    (λ h. asked (access_of Read Word address) (Read16 (bus_address address)) refl even h refl)
    (λ h. private (access_of Read Word address) (actions.word_seen (bus_address address)) (λ done. done) (λ done. refl) refl even h)

pub read_word : (address : ℕ) → Follows (one Read Word address) (actions.read_word address)
unfolding actions.read_word
read_word address =
    split _ (actions.is_odd address) _ _ (λ h. odd_first _ (access_of Read Word address) [] refl h) (read_aligned address)

read_halves : (address : ℕ) → Follows (one Read Word address ++ one Read Word ((address + 2) % 2 ^ 32)) (actions.read_long address)
unfolding actions.read_long
read_halves address =
    bind (one Read Word address) (one Read Word ((address + 2) % 2 ^ 32)) _ _ (read_word address) (λ high.
    last _ _ _ (read_word ((address + 2) % 2 ^ 32)) (λ low. give _))

read_long : (address : ℕ) → Follows (one Read Long address) (actions.read_long address)
read_long address = record { along = (read_halves address).along }

pub read : (size : Size) (address : ℕ) → Follows (one Read size address) (actions.read size address)
unfolding actions.read
read Byte address = read_byte address
read Word address = read_word address
read Long address = read_long address

-- writes
reported : (access : Access) (request : Request68) → words (access ∷ []) ≡ access ∷ [] → IsEven access → IsTrue (is_shared (bus_address access.address)) → Requests access.kind access.size access.address request → Follows (access ∷ []) (actions.reported request)
unfolding actions.reported
reported access request whole even h r = last _ _ _ (asked access request whole even h r) (λ answer. give _)

pub write_byte : (address value : ℕ) → Follows (one Write Byte address) (actions.write_byte address value)
unfolding actions.write_byte
write_byte address value =
    split _ (is_shared (bus_address address)) _ _
    (λ h. reported (access_of Write Byte address) (Write8 (bus_address address) value) refl refl h (value, refl))
    (λ h. private (access_of Write Byte address) (λ memory done. tt) (actions.with_byte (bus_address address) value) (with_byte-used (bus_address address) value) refl refl h)

write_aligned : (address value : ℕ) → actions.is_odd address ≡ false → Follows (one Write Word address) (actions.write_aligned (bus_address address) value)
unfolding actions.write_aligned
write_aligned address value even =
    split _ (is_shared (bus_address address)) _ _
    (λ h. reported (access_of Write Word address) (Write16 (bus_address address) value) refl even h (value, refl))
    (λ h. private (access_of Write Word address) (λ memory done. tt) (actions.with_word (bus_address address) value) (with_word-used (bus_address address) value) refl even h)

pub write_word : (address value : ℕ) → Follows (one Write Word address) (actions.write_word address value)
unfolding actions.write_word
write_word address value =
    split _ (actions.is_odd address) _ _ (λ h. odd_first _ (access_of Write Word address) [] refl h) (write_aligned address value)

write_halves : (address value : ℕ) → Follows (one Write Word address ++ one Write Word ((address + 2) % 2 ^ 32)) (actions.write_long address value)
unfolding actions.write_long
write_halves address value =
    bind (one Write Word address) (one Write Word ((address + 2) % 2 ^ 32)) _ _ (write_word address _) (λ first. write_word ((address + 2) % 2 ^ 32) _)

write_long : (address value : ℕ) → Follows (one Write Long address) (actions.write_long address value)
write_long address value = record { along = (write_halves address value).along }

pub write : (size : Size) (address value : ℕ) → Follows (one Write size address) (actions.write size address value)
unfolding actions.write
write Byte address value = write_byte address value
write Word address value = write_word address value
write Long address value = write_long address value
