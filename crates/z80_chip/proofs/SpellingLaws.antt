-- Laws of the bytes that keep the Z80, and of those that keep none.
use Rattle.std.proofs.Common.{◌≡◌, ℕ, ◌+◌, ◌≤◌, Bool, true, false, not, cond, eqb, ltb, List, ◌++◌, length, take, drop, Option, Some, None, is_some, IfSome, refl, sym, ap, subst, ◌∙◌, inl, inr, ◌⊎◌, arith}
use Rattle.std.specs.Int.{w16}
use Rattle.std.proofs.Math.Bool.{and-false}
use Rattle.std.proofs.lemmas.Bool.{ltb-true, eqb-true}
use Rattle.std.proofs.lemmas.List.{length-take, length-drop}
use Rattle.md_fields.specs.Fields.{AllHold, AreSized, Field, first_invalid, or_else, sizes, spelling}
use Rattle.md_fields.specs.Items.{IsRight, Keeps}
use Rattle.md_fields.specs.Places.{IsBytes, Stand, number_at}
use Rattle.md_fields.proofs.Items.{kept, same}
use Rattle.md_fields.proofs.Standing.{long_as, long_as_sized}
use Rattle.z80_parcel.specs.Parcels.{IsStore, Store, banks, ram_size}
use Rattle.z80_parcel.specs.Spelling.{store_fields}
use Rattle.z80_chip.specs.Saved.{Kept80, asks_more, chip_fields, fields_by, is_bank_right, kept_of, number_fields, numbers_of, state_from}
use Rattle.z80_chip.specs.Spelling.{InvalidAt, IsLength, IsRead, Spells, bank_offset, chip_bytes, full_size, ram_offset, spelled_size, store_at}
use Rattle.z80_chip.specs.States.{State80}
use Rattle.z80_chip.specs.declared.saved.Saved80.{Saved80}
use Rattle.z80_chip.proofs.SavedLaws.{Rules, kept_back, only_one, rules_of, state_again}
use Rattle.md_fields.proofs.Tables.{first_append, none_of, spelling_append}
use Rattle.md_fields.proofs.Values.{fit_at}

-- ---- sizes

pub size_by : (at : ℕ) (holds : Bool) (s : Saved80) (store : Option Store) → sizes (fields_by at holds (record { numbers = s; store = store })) ≡ spelled_size (is_some store)
unfolding sizes
size_by at holds s None = refl
size_by at holds s (Some store) = refl

pub number_size : (at : ℕ) (has : Bool) (s : Saved80) → sizes (number_fields at has s) ≡ ram_offset
unfolding sizes
number_size at has s = refl

pub least : (has : Bool) → ram_offset ≤ spelled_size has
least true = omega arith
least false = omega arith

pub most : (has : Bool) → spelled_size has ≤ full_size
most true = omega arith
most false = omega arith

pub tail_size : (store : Option Store) → IfSome store IsStore → ram_offset + length (spelling (store_fields true store)) ≡ spelled_size (is_some store)
unfolding AreSized sizes spelling
tail_size None ok = refl
tail_size (Some store) ok = ap (λ (n : ℕ). ram_offset + n) (long_as_sized (store_fields true (Some store)) (ok.ram, (tt, tt)))

-- ---- the bytes of a state

same_numbers : (at other : ℕ) (has more : Bool) (s : Saved80) → spelling (number_fields at has s) ≡ spelling (number_fields other more s)
unfolding spelling
same_numbers at other has more s = refl

pub whole_bytes : (at : ℕ) (has : Bool) (state : State80) → spelling (number_fields at has (numbers_of state)) ++ spelling (store_fields true state.store) ≡ chip_bytes state
whole_bytes at has state =
    ap (λ (l : List ℕ). l ++ spelling (store_fields true state.store)) (same_numbers at 0 has (is_some state.store) (numbers_of state))
    ∙ sym (spelling_append (number_fields 0 (is_some state.store) (numbers_of state)) (store_fields true state.store))

-- ---- RAM and bank register as they are in the bytes

abbrev there : List ℕ → Store
there bytes = record { ram = take ram_size (drop ram_offset bytes); bank = number_at w16 bank_offset bytes }

tail_by : (short holds : Bool) (bytes : List ℕ) → (short ≡ true → length bytes ≡ ram_offset) → (short ≡ false → length bytes ≡ full_size)
    → Stand ram_offset (store_fields holds (cond short None (Some (there bytes)))) bytes
unfolding Stand
tail_by true holds bytes one other = one refl
tail_by false holds bytes one other = (refl, (refl, other refl))

long_by : (n : ℕ) → (n ≡ ram_offset) ⊎ (n ≡ full_size) → eqb n ram_offset ≡ false → n ≡ full_size
long_by n (inl e) f = absurd (let g : eqb ram_offset ram_offset ≡ false = subst (λ (m : ℕ). eqb m ram_offset ≡ false) e f in cc)
long_by n (inr e) f = e

pub stands_by : (at : ℕ) (bytes : List ℕ) (s : Saved80) → IsLength bytes
    → ((at : ℕ) (has : Bool) (rest : List Field) → Stand ram_offset rest bytes → Stand 0 (number_fields at has s ++ rest) bytes)
    → (holds : Bool) → Stand 0 (fields_by at holds (record { numbers = s; store = store_at bytes })) bytes
stands_by at bytes s sized reading holds =
    reading at (is_some (store_at bytes)) (store_fields holds (store_at bytes))
    (tail_by (eqb (length bytes) ram_offset) holds bytes (λ e. eqb-true (length bytes) ram_offset e) (λ e. long_by (length bytes) sized e))

has_by : (short : Bool) (store : Store) → not short ≡ is_some (cond short None (Some store))
has_by true store = refl
has_by false store = refl

-- there is RAM where the bytes are not the fewer
pub has_store : (bytes : List ℕ) → not (eqb (length bytes) ram_offset) ≡ is_some (store_at bytes)
has_store bytes = has_by (eqb (length bytes) ram_offset) (there bytes)

-- ---- refusals

-- a rule of a number fails
pub breaks_number : (cart : List ℕ) (at : ℕ) (bytes : List ℕ) (s : Saved80) (place : ℕ) → IsBytes bytes
    → ((holds : Bool) → Stand 0 (fields_by at holds (record { numbers = s; store = store_at bytes })) bytes)
    → first_invalid 0 (number_fields at (is_some (store_at bytes)) s) ≡ Some place → InvalidAt cart at bytes place
breaks_number cart at bytes s place fits stands e =
    let k : Kept80 = record { numbers = s; store = store_at bytes } in
    inr (record {
      saved = k;
      keeps = kept (chip_fields cart at) bytes k fits (stands (asks_more cart k));
      first = first_append 0 (number_fields at (is_some k.store) s) (store_fields (asks_more cart k) k.store)
          ∙ ap (λ (f : Option ℕ). or_else f (first_invalid (0 + sizes (number_fields at (is_some k.store) s)) (store_fields (asks_more cart k) k.store))) e;
    })

invalid_completion : (at : ℕ) (holds : Bool) (s : Saved80) (store : Option Store) → first_invalid 0 (number_fields at (is_some store) s) ≡ None
    → first_invalid 0 (fields_by at holds (record { numbers = s; store = store })) ≡ first_invalid ram_offset (store_fields holds store)
invalid_completion at holds s store e =
    first_append 0 (number_fields at (is_some store) s) (store_fields holds store)
    ∙ ap (λ (f : Option ℕ). or_else f (first_invalid (0 + sizes (number_fields at (is_some store) s)) (store_fields holds store))) e
    ∙ ap (λ (n : ℕ). first_invalid (0 + n) (store_fields holds store)) (number_size at (is_some store) s)

-- RAM's rule is not looked at over a wrong bank register, or where there is no RAM
asks_none : (cart : List ℕ) (k : Kept80) → is_bank_right k.store ≡ false → asks_more cart k ≡ true
asks_none cart k e =
    rw (e, and-false (eqb k.numbers.stage 1)) refl

bank_invalid : (holds : Bool) (store : Store) → holds ≡ true → ltb store.bank banks ≡ false → first_invalid ram_offset (store_fields holds (Some store)) ≡ Some bank_offset
unfolding first_invalid
bank_invalid true store h e = rw e refl
bank_invalid false store h e = absurd cc

-- the bank register is wrong
pub breaks_bank : (cart : List ℕ) (at : ℕ) (bytes : List ℕ) (s : Saved80) → IsBytes bytes
    → ((holds : Bool) → Stand 0 (fields_by at holds (record { numbers = s; store = store_at bytes })) bytes)
    → first_invalid 0 (number_fields at (is_some (store_at bytes)) s) ≡ None
    → eqb (length bytes) ram_offset ≡ false → ltb (number_at w16 bank_offset bytes) banks ≡ false → InvalidAt cart at bytes bank_offset
breaks_bank cart at bytes s fits stands e long invalid =
    let k : Kept80 = record { numbers = s; store = store_at bytes } in
    let is : store_at bytes ≡ Some (there bytes) = ap (λ (b : Bool). cond b None (Some (there bytes))) long in
    let none : asks_more cart k ≡ true = asks_none cart k (ap is_bank_right is ∙ invalid) in
    inr (record {
      saved = k;
      keeps = kept (chip_fields cart at) bytes k fits (stands (asks_more cart k));
      first = invalid_completion at (asks_more cart k) s (store_at bytes) e
          ∙ ap (λ (o : Option Store). first_invalid ram_offset (store_fields (asks_more cart k) o)) is
          ∙ bank_invalid (asks_more cart k) (there bytes) none invalid;
    })

right_by : (short : Bool) (store : Store) → (short ≡ false → ltb store.bank banks ≡ true) → first_invalid ram_offset (store_fields true (cond short None (Some store))) ≡ None
unfolding first_invalid
right_by true store h = refl
right_by false store h = rw (h refl) refl

-- all rules hold but RAM's
pub right_numbers : (at : ℕ) (bytes : List ℕ) (s : Saved80) → first_invalid 0 (number_fields at (is_some (store_at bytes)) s) ≡ None
    → (eqb (length bytes) ram_offset ≡ false → ltb (number_at w16 bank_offset bytes) banks ≡ true)
    → first_invalid 0 (fields_by at true (record { numbers = s; store = store_at bytes })) ≡ None
right_numbers at bytes s e h = invalid_completion at true s (store_at bytes) e ∙ right_by (eqb (length bytes) ram_offset) (there bytes) h

-- ---- what is read

abbrev pub read_of : List ℕ → Saved80 → Kept80
read_of bytes s = record { numbers = s; store = store_at bytes }

pub read_rules : (at : ℕ) (bytes : List ℕ) (s : Saved80) → IsRead at bytes s → Rules at true (read_of bytes s)
read_rules at bytes s is = rules_of at true (read_of bytes s) is.right

ok_by : (short : Bool) (store : Store) → AllHold (store_fields true (cond short None (Some store))) → (short ≡ false → length store.ram ≡ ram_size)
    → IfSome (cond short None (Some store)) IsStore
unfolding AllHold
ok_by true store all ram = tt
ok_by false store all ram = record { ram = ram refl; bank = ltb-true store.bank banks all.1.0 }

pub read_store : (at : ℕ) (bytes : List ℕ) (s : Saved80) → IsRead at bytes s → IfSome (store_at bytes) IsStore
read_store at bytes s is =
    ok_by (eqb (length bytes) ram_offset) (there bytes) (read_rules at bytes s is).store
    (λ short. (let long = long_by (length bytes) is.sized short in omega (arith, length-take ram_size (drop ram_offset bytes), length-drop ram_offset bytes, long)))

pub read_keeps : (cart : List ℕ) (at : ℕ) (bytes : List ℕ) (s : Saved80) → IsBytes bytes → IsRead at bytes s → Keeps (chip_fields cart at) bytes (read_of bytes s)
read_keeps cart at bytes s fits is = kept (chip_fields cart at) bytes (read_of bytes s) fits (is.stands (asks_more cart (read_of bytes s)))

pub read_right : (cart : List ℕ) (at : ℕ) (bytes : List ℕ) (s : Saved80) → IsRead at bytes s → asks_more cart (read_of bytes s) ≡ true → IsRight (chip_fields cart at) (read_of bytes s)
read_right cart at bytes s is asks = subst (λ (b : Bool). first_invalid 0 (fields_by at b (read_of bytes s)) ≡ None) (sym asks) is.right

ram_invalid : (cart : List ℕ) (s : Saved80) (store : Option Store) → asks_more cart (record { numbers = s; store = store }) ≡ false
    → first_invalid ram_offset (store_fields (asks_more cart (record { numbers = s; store = store })) store) ≡ Some ram_offset
unfolding first_invalid
ram_invalid cart s None e = absurd (let t = asks_none cart (record { numbers = s; store = None }) refl in cc)
ram_invalid cart s (Some store) e = rw e refl

-- RAM's rule fails
pub breaks_ram : (cart : List ℕ) (at : ℕ) (bytes : List ℕ) (s : Saved80) → IsBytes bytes → IsRead at bytes s → asks_more cart (read_of bytes s) ≡ false → InvalidAt cart at bytes ram_offset
breaks_ram cart at bytes s fits is asks =
    let k : Kept80 = read_of bytes s in
    let parts = none_of 0 (number_fields at (is_some k.store) s) (store_fields true k.store) is.right in
    inr (record {
      saved = k;
      keeps = read_keeps cart at bytes s fits is;
      first = invalid_completion at (asks_more cart k) s k.store parts.0 ∙ ram_invalid cart s k.store asks;
    })

-- ---- what bytes keep

pub answers_four : (cart : List ℕ) (at : ℕ) (bytes : List ℕ) (k : Kept80) → Keeps (chip_fields cart at) bytes k → length k.numbers.answers ≡ 4
answers_four cart at bytes k keeps = fit_at (chip_fields cart at k) keeps.within 25

pub spelled_by : (cart : List ℕ) (at : ℕ) (bytes : List ℕ) (k : Kept80) → Keeps (chip_fields cart at) bytes k → IsRight (chip_fields cart at) k → Spells cart at bytes (state_from k.numbers k.store)
spelled_by cart at bytes k keeps right =
    let rules = rules_of at (asks_more cart k) k right in
    let e : kept_of (state_from k.numbers k.store) ≡ k = kept_back at (asks_more cart k) k (answers_four cart at bytes k keeps) rules in
    record {
      keeps = subst (Keeps (chip_fields cart at) bytes) (sym e) keeps;
      right = subst (λ (x : Kept80). IsRight (chip_fields cart at) x) (sym e) right;
    }

pub no_other : (cart : List ℕ) (at : ℕ) (bytes : List ℕ) (k : Kept80) (state : State80) → Keeps (chip_fields cart at) bytes k → Spells cart at bytes state → state_from k.numbers k.store ≡ state
no_other cart at bytes k state keeps p =
    ap (λ (x : Kept80). state_from x.numbers x.store) (same (chip_fields cart at) bytes (only_one cart at bytes) k (kept_of state) keeps p.keeps) ∙ state_again state

no_length : (n : ℕ) (has : Bool) → n ≡ spelled_size has → (n ≡ ram_offset → ⊥) → (n ≡ full_size → ⊥) → ⊥
no_length n true e short long = long e
no_length n false e short long = short e

long_kept : (cart : List ℕ) (at : ℕ) (bytes : List ℕ) (k : Kept80) → Keeps (chip_fields cart at) bytes k → length bytes ≡ spelled_size (is_some k.store)
long_kept cart at bytes k keeps = ap length keeps.all ∙ long_as (chip_fields cart at k) keeps.within ∙ size_by at (asks_more cart k) k.numbers k.store

pub right_not_refused : (cart : List ℕ) (at : ℕ) (bytes : List ℕ) (k : Kept80) (place : ℕ) → Keeps (chip_fields cart at) bytes k → IsRight (chip_fields cart at) k → InvalidAt cart at bytes place → ⊥
right_not_refused cart at bytes k place keeps right (inl invalid) = no_length (length bytes) (is_some k.store) (long_kept cart at bytes k keeps) invalid.0 invalid.1
right_not_refused cart at bytes k place keeps right (inr b) =
    let e : k ≡ b.saved = same (chip_fields cart at) bytes (only_one cart at bytes) k b.saved keeps b.keeps in
    let e2 : first_invalid 0 (chip_fields cart at k) ≡ Some place = ap (λ (x : Kept80). first_invalid 0 (chip_fields cart at x)) e ∙ b.first in
    absurd cc

pub only_place : (cart : List ℕ) (at : ℕ) (bytes : List ℕ) (p q : ℕ) → InvalidAt cart at bytes p → InvalidAt cart at bytes q → p ≡ q
only_place cart at bytes p q (inl a) (inl b) = a.2 ∙ sym b.2
only_place cart at bytes p q (inl a) (inr b) = absurd (no_length (length bytes) (is_some b.saved.store) (long_kept cart at bytes b.saved b.keeps) a.0 a.1)
only_place cart at bytes p q (inr a) (inl b) = absurd (no_length (length bytes) (is_some a.saved.store) (long_kept cart at bytes a.saved a.keeps) b.0 b.1)
only_place cart at bytes p q (inr a) (inr b) =
    let e : a.saved ≡ b.saved = same (chip_fields cart at) bytes (only_one cart at bytes) a.saved b.saved a.keeps b.keeps in
    let e2 : first_invalid 0 (chip_fields cart at a.saved) ≡ Some q = ap (λ (x : Kept80). first_invalid 0 (chip_fields cart at x)) e ∙ b.first in
    let e3 : first_invalid 0 (chip_fields cart at a.saved) ≡ Some p = a.first in
    cc
