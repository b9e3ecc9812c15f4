-- A line that is out of reach is an instruction whose text, with the value of each name, no instruction has at its address.
use Rattle.std.proofs.Common.{◌≡◌, ◌⊎◌, inl, inr, ℕ, ◌+◌, ◌*◌, ◌%◌, ◌==◌, Bool, true, false, ◌&&◌, List, [], ◌∷◌, ◌++◌, length, refl, ap, ◌∙◌, sym, subst, arith, Option, Some, None, if◌then◌else◌}
use Rattle.std.specs.Prelude.{option_map}
use Rattle.std.proofs.lemmas.Bool.Decides.{nat_tests}
use Rattle.m68k_decode.specs.Instructions as main
use Rattle.z80_decode.specs.Instructions as sub
use Rattle.md_asm_text.specs.Tokens as tokens
use Rattle.md_asm_text.specs.Tokens.{Token}
use Rattle.md_asm_text.specs.Lines.{Line, line_of}
use Rattle.md_asm_text.specs.declared.body.Body.{Body}
use Rattle.md_asm_text.specs.declared.body.Body.TheVariants as bodies
use Rattle.md_asm.specs.Codes.{code, in_bytes}
use Rattle.md_asm.specs.Contents.{Far, Good, Unfit, Unknown, content, is_unfit, size, sized}
use Rattle.md_asm.specs.Numbers.{Names, bytes_of, count, filled, has_name, resolved, valued, words_of}
use Rattle.md_asm.specs.Held.{IsAddress}
use Rattle.md_asm.specs.Places.{any_written, is_sub, is_too_large}
use Rattle.md_asm.specs.Rounds.{On, Read, Refused, Round, Slot, Step, Stop, following, go_on, has_bytes, is_twice, kept_if, labelled, line_step, round_one, settled_slot, slot_of, start, wants_even}
use Rattle.md_asm.proofs.Apart.{AllSlots, all_slots_more}
use Rattle.asm_laws.specs.Faults.{HasNoText}
use Rattle.asm_laws.proofs.Forms.{form_size}
use Rattle.md_asm.proofs.Coded68.{main_coded}
use Rattle.md_asm.proofs.Coded80.{sub_coded}

-- ---- each line that has bytes has its length

abbrev pub IsSized : Slot → Type 0
IsSized s = size s.sub s.body (tokens.tokens s.text) ≡ Some s.long

kept_sized : (round : Round) (number : ℕ) (line : Line) (long : ℕ) (b : Bool) → AllSlots IsSized round.slots
    → size (is_sub round.processor) line.body (tokens.tokens line.text) ≡ Some long → AllSlots IsSized (kept_if b (labelled round line.label) number line long).slots
kept_sized round number line long true each is = all_slots_more IsSized round.slots (slot_of (labelled round line.label) number line long) each is
kept_sized round number line long false each is = each

pub bool_cases : (b : Bool) → (b ≡ true) ⊎ (b ≡ false)
bool_cases true = inl refl
bool_cases false = inr refl

pub none_or : (found : Option ℕ) → (found ≡ None) ⊎ ((n : ℕ) × (found ≡ Some n))
none_or None = inl refl
none_or (Some n) = inr (n, refl)

step_sized : (round : Round) (number : ℕ) (line : Line) (next : Round) → AllSlots IsSized round.slots → line_step round number line ≡ On next → AllSlots IsSized next.slots
step_sized round number line next each on =
    elim (none_or (size (is_sub round.processor) line.body (tokens.tokens line.text))) [
      | inl none ↦ (let no = rw none at on in cc)
      | inr some ↦ (let sized_on = rw some.1 at on in
          elim (bool_cases (is_unfit (is_sub round.processor) line.body (tokens.tokens line.text))) [
            | inl a ↦ (let no = rw a at sized_on in cc)
            | inr a ↦ (let fit_on = rw a at sized_on in
                elim (bool_cases (is_twice round.names line.label)) [
                  | inl b ↦ (let no = rw b at fit_on in cc)
                  | inr b ↦ (let once_on = rw b at fit_on in
                      elim (bool_cases (wants_even (is_sub round.processor) line.body && round.place % 2 == 1)) [
                        | inl c ↦ (let no = rw c at once_on in cc)
                        | inr c ↦ (let even_on = rw c at once_on in
                            elim (bool_cases (any_written round.written round.place some.0)) [
                              | inl d ↦ (let no = rw d at even_on in cc)
                              | inr d ↦ (let free_on = rw d at even_on in
                                  elim (bool_cases (has_bytes line.body && is_too_large round.place some.0)) [
                                    | inl e ↦ (let no = rw e at free_on in cc)
                                    | inr e ↦ (let last = rw e at free_on in
                                        let same : following round number line some.0 ≡ next = cc in
                                        subst (λ (r : Round). AllSlots IsSized r.slots) same (kept_sized round number line some.0 (has_bytes line.body) each some.1))
                                  ])
                            ])
                      ])
                ])
          ])
    ]

rounds_sized : (round last : Round) (number : ℕ) (texts : List (List ℕ)) → AllSlots IsSized round.slots → round_one round number texts ≡ Read last → AllSlots IsSized last.slots
unfolding round_one
rounds_sized round last number [] each read = let e : round ≡ last = cc in subst (λ (r : Round). AllSlots IsSized r.slots) e each
rounds_sized round last number (text ∷ more) each read =
    by (line_step round number (line_of text)) refl (λ next on r. rounds_sized next last (number + 1) more (step_sized round number (line_of text) next each on) r) read
  where
    by : (s : Step) → line_step round number (line_of text) ≡ s
        → ((next : Round) → line_step round number (line_of text) ≡ On next → round_one next (number + 1) more ≡ Read last → AllSlots IsSized last.slots)
        → go_on number (line_step round number (line_of text)) (λ next. round_one next (number + 1) more) ≡ Read last → AllSlots IsSized last.slots
    by (On next) is later r = later next is (rw is at r)
    by (Stop kind) is later r = let no : Refused number kind ≡ Read last = rw is at r in cc

pub all_sized : (last : Round) (texts : List (List ℕ)) → round_one start 1 texts ≡ Read last → AllSlots IsSized last.slots
all_sized last texts read = rounds_sized start last 1 texts tt read

pub slot_among : (P : Slot → Type 0) (front : List Slot) (slot : Slot) (rest : List Slot) → AllSlots P (front ++ slot ∷ rest) → P slot
slot_among P [] slot rest each = each.0
slot_among P (s ∷ more) slot rest each = slot_among P more slot rest each.1

-- ---- with values for its names it is as long

filled_by : (name : List ℕ) (found : Option ℕ) (xs ys : List Token) → filled xs ≡ filled ys → filled (valued name found ∷ xs) ≡ filled (tokens.Name name ∷ ys)
filled_by name None xs ys e = ap (λ (l : List Token). tokens.Number 8 ∷ l) e
filled_by name (Some n) xs ys e = ap (λ (l : List Token). tokens.Number 8 ∷ l) e

filled_resolved : (names : Names) (line_tokens : List Token) → filled (resolved names line_tokens) ≡ filled line_tokens
filled_resolved names [] = refl
filled_resolved names (tokens.Word w ∷ ps) = ap (λ (l : List Token). tokens.Word w ∷ l) (filled_resolved names ps)
filled_resolved names (tokens.Number n ∷ ps) = ap (λ (l : List Token). tokens.Number 8 ∷ l) (filled_resolved names ps)
filled_resolved names (tokens.Name w ∷ ps) = filled_by w (names w) (resolved names ps) ps (filled_resolved names ps)
filled_resolved names (tokens.Mark c ∷ ps) = ap (λ (l : List Token). tokens.Mark c ∷ l) (filled_resolved names ps)

count_by : (name : List ℕ) (found : Option ℕ) (xs ys : List Token) → count xs ≡ count ys → count (valued name found ∷ xs) ≡ count (tokens.Name name ∷ ys)
unfolding count
count_by name None xs ys e = ap (λ (k : ℕ). 1 + k) e
count_by name (Some n) xs ys e = ap (λ (k : ℕ). 1 + k) e

count_resolved : (names : Names) (line_tokens : List Token) → count (resolved names line_tokens) ≡ count line_tokens
unfolding count
count_resolved names [] = refl
count_resolved names (tokens.Word w ∷ ps) = count_resolved names ps
count_resolved names (tokens.Number n ∷ ps) = ap (λ (k : ℕ). 1 + k) (count_resolved names ps)
count_resolved names (tokens.Name w ∷ ps) = count_by w (names w) (resolved names ps) ps (count_resolved names ps)
count_resolved names (tokens.Mark c ∷ ps) = count_resolved names ps

size_resolved : (z80 : Bool) (names : Names) (body : Body) (line_tokens : List Token) → size z80 body (resolved names line_tokens) ≡ size z80 body line_tokens
size_resolved z80 names bodies.Words line_tokens = ap (λ (k : ℕ). Some (2 * k)) (count_resolved names line_tokens)
size_resolved z80 names bodies.Bytes line_tokens = ap (λ (k : ℕ). Some k) (count_resolved names line_tokens)
size_resolved z80 names bodies.Instruction line_tokens = ap (λ (l : List Token). option_map length (code z80 l 4)) (filled_resolved names line_tokens)
size_resolved z80 names bodies.Bad line_tokens = refl
size_resolved z80 names bodies.Nothing line_tokens = refl
size_resolved z80 names (bodies.Org place) line_tokens = refl
size_resolved z80 names bodies.Main line_tokens = refl
size_resolved z80 names (bodies.Sub at) line_tokens = refl

-- ---- the bytes of a directive are never out of reach

words_long : (line_tokens : List Token) → has_name line_tokens ≡ false → length (words_of line_tokens) ≡ 2 * count line_tokens
unfolding has_name words_of count
words_long [] none = refl
words_long (tokens.Word w ∷ ps) none = words_long ps none
words_long (tokens.Number n ∷ ps) none = let e = words_long ps none in omega (arith, e)
words_long (tokens.Name w ∷ ps) none = cc
words_long (tokens.Mark c ∷ ps) none = words_long ps none

bytes_long : (line_tokens : List Token) → has_name line_tokens ≡ false → length (bytes_of line_tokens) ≡ count line_tokens
unfolding has_name bytes_of count
bytes_long [] none = refl
bytes_long (tokens.Word w ∷ ps) none = bytes_long ps none
bytes_long (tokens.Number n ∷ ps) none = let e = bytes_long ps none in omega (arith, e)
bytes_long (tokens.Name w ∷ ps) none = cc
bytes_long (tokens.Mark c ∷ ps) none = bytes_long ps none

far_parts : (named unfit : Bool) (long : ℕ) (found : Option (List ℕ)) → (if named then Unknown else (if unfit then Unfit else sized long found)) ≡ Far
    → (named ≡ false) × (sized long found ≡ Far)
far_parts true unfit long found is = cc
far_parts false true long found is = cc
far_parts false false long found is = (refl, is)

-- what is found is not as long
not_long : (long : ℕ) (found : Option (List ℕ)) (bytes : List ℕ) → sized long found ≡ Far → found ≡ Some bytes → length bytes ≡ long → ⊥
not_long long None bytes far is same = cc
not_long long (Some own) bytes far is same = by (length own == long) refl far
  where
    equal : length own ≡ long
    equal = let e : own ≡ bytes = cc in rw e same

    by : (b : Bool) → (length own == long) ≡ b → (if b then Good own else Far) ≡ Far → ⊥
    by true e f = cc
    by false e f = let s = equal in absurd (grind (arith, nat_tests))

-- ---- no instruction has the text

some_long : (a b : ℕ) (found : Option ℕ) → found ≡ Some a → found ≡ Some b → a ≡ b
some_long a b found is too = cc

no_text : (z80 : Bool) (line_tokens : List Token) (long at : ℕ) → IsAddress z80 at → size z80 bodies.Instruction line_tokens ≡ Some long → sized long (code z80 line_tokens at) ≡ Far → HasNoText z80 line_tokens at
no_text true line_tokens long at below is far = λ bytes all instruction text.
    let form = form_size true line_tokens (sub.instruction_of bytes).length (bytes, at, record { all = all; instruction = instruction; address = below; alike = ap filled (sym text) }, refl) in
    let own = sub_coded bytes at all below instruction in
    let coded : code true line_tokens at ≡ Some own.0 = ap (λ (l : List Token). code true l at) (sym text) ∙ own.1.own in
    not_long long (code true line_tokens at) own.0 far coded (own.2 ∙ some_long (sub.instruction_of bytes).length long (size true bodies.Instruction line_tokens) form is)
no_text false line_tokens long at below is far = λ word tail low entered words text.
    let form = form_size false line_tokens (main.instruction_of (word ∷ tail)).length
    (word, tail, at, record { first = low; instruction = entered; words = words; address = below; alike = ap filled (sym text) }, refl) in
    let own = main_coded word tail at (record { low = low; entered = entered; all = words }) below in
    let coded : code false line_tokens at ≡ Some (in_bytes own.words) = ap (λ (l : List Token). code false l at) (sym text) ∙ own.coded.own in
    not_long long (code false line_tokens at) (in_bytes own.words) far coded (own.long ∙ some_long (main.instruction_of (word ∷ tail)).length long (size false bodies.Instruction line_tokens) form is)

-- a directive is never out of reach
never_far : (z80 : Bool) (body : Body) (line_tokens : List Token) (long at : ℕ) (bytes : List ℕ) → content z80 body line_tokens at ≡ Some bytes → size z80 body line_tokens ≡ Some (length bytes)
    → size z80 body line_tokens ≡ Some long → sized long (content z80 body line_tokens at) ≡ Far → ⊥
never_far z80 body line_tokens long at bytes is own too far = not_long long (content z80 body line_tokens at) bytes far is (some_long (length bytes) long (size z80 body line_tokens) own too)

by_body : (z80 : Bool) (body : Body) (line_tokens : List Token) (long at : ℕ) → has_name line_tokens ≡ false → IsAddress z80 at → size z80 body line_tokens ≡ Some long
    → sized long (content z80 body line_tokens at) ≡ Far → (body ≡ bodies.Instruction) × HasNoText z80 line_tokens at
by_body z80 bodies.Instruction line_tokens long at named below is far = (refl, no_text z80 line_tokens long at below is far)
by_body z80 bodies.Words line_tokens long at named below is far = absurd (never_far z80 bodies.Words line_tokens long at (words_of line_tokens) refl (ap (λ (k : ℕ). Some k) (sym (words_long line_tokens named))) is far)
by_body z80 bodies.Bytes line_tokens long at named below is far = absurd (never_far z80 bodies.Bytes line_tokens long at (bytes_of line_tokens) refl (ap (λ (k : ℕ). Some k) (sym (bytes_long line_tokens named))) is far)
by_body z80 bodies.Bad line_tokens long at named below is far = cc
by_body z80 bodies.Nothing line_tokens long at named below is far = absurd (never_far z80 bodies.Nothing line_tokens long at [] refl refl is far)
by_body z80 (bodies.Org place) line_tokens long at named below is far = absurd (never_far z80 (bodies.Org place) line_tokens long at [] refl refl is far)
by_body z80 bodies.Main line_tokens long at named below is far = absurd (never_far z80 bodies.Main line_tokens long at [] refl refl is far)
by_body z80 (bodies.Sub n) line_tokens long at named below is far = absurd (never_far z80 (bodies.Sub n) line_tokens long at [] refl refl is far)

pub far_means : (names : Names) (slot : Slot) → IsSized slot → IsAddress slot.sub slot.address → settled_slot names slot ≡ Far
    → (slot.body ≡ bodies.Instruction) × HasNoText slot.sub (resolved names (tokens.tokens slot.text)) slot.address
far_means names slot is below far =
    let line_tokens = resolved names (tokens.tokens slot.text) in
    let parts = far_parts (has_name line_tokens) (is_unfit slot.sub slot.body line_tokens) slot.long (content slot.sub slot.body line_tokens slot.address) far in
    by_body slot.sub slot.body line_tokens slot.long slot.address parts.0 below (size_resolved slot.sub names slot.body (tokens.tokens slot.text) ∙ is) parts.1
