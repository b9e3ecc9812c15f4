-- Laws of the bytes that keep the 68000, and of those that keep none.
use Rattle.std.proofs.Common.{◌≡◌, ℕ, ◌+◌, Bool, true, false, cond, List, [], ◌∷◌, ◌++◌, length, Option, Some, None, refl, sym, ap, subst, ◌∙◌, inr, arith}
use Rattle.md_fields.specs.Fields.{Field, block, first_invalid, holds_of, size_of, sizes, spelling}
use Rattle.md_fields.specs.Items.{IsRight, Keeps}
use Rattle.md_fields.specs.Places.{IsBytes, Stand}
use Rattle.md_fields.proofs.Items.{kept}
use Rattle.md_fields.proofs.Standing.{long_as}
use Rattle.md_fields.proofs.Values.{fit_at, not_refused, read_back, spelled_once}
use Rattle.rom_header.specs.Cartridge.{IsImage}
use Rattle.m68k_access.specs.Memory.{ram_size}
use Rattle.m68k_chip.specs.Numbers.{Numbers68, numbers_of, state_from}
use Rattle.m68k_chip.specs.Resuming.{asks_more}
use Rattle.m68k_chip.specs.Saved.{chip_fields, fields_by, number_fields}
use Rattle.m68k_chip.specs.Validity.{IsChip68}
use Rattle.m68k_chip.specs.Spelling.{InvalidAt, Spells, chip_size}
use Rattle.m68k_chip.specs.States.{State68}
use Rattle.m68k_chip.proofs.Laws.{of}
use Rattle.m68k_chip.proofs.SavedLaws.{Rules, numbers_back, rules_of, state_again, table}
use Rattle.m68k_chip.proofs.SavedValid.{valid}

-- the bytes do not depend on the rules
pub same_bytes : (at other : ℕ) (holds more : Bool) (n : Numbers68) → spelling (fields_by at holds n) ≡ spelling (fields_by other more n)
unfolding spelling
same_bytes at other holds more n = refl

pub fields_size : (at : ℕ) (holds : Bool) (n : Numbers68) → sizes (fields_by at holds n) ≡ chip_size
unfolding sizes
fields_size at holds n = refl

-- ---- the last rule

step_some : (h : Bool) (place p : ℕ) (x y : Option ℕ) → (x ≡ Some p → y ≡ Some p) → cond h x (Some place) ≡ Some p → cond h y (Some place) ≡ Some p
step_some true place p x y f e = f e
step_some false place p x y f e = e

step_none : (h : Bool) (place p : ℕ) (x y : Option ℕ) → (x ≡ None → y ≡ Some p) → cond h x (Some place) ≡ None → cond h y (Some place) ≡ Some p
step_none true place p x y f e = f e
step_none false place p x y f e = absurd cc

-- a rule that fails before the last is the first that fails, whatever the last one is
early : (place p size : ℕ) (bytes : List ℕ) (holds : Bool) (fs : List Field) → first_invalid place (fs ++ block size bytes true ∷ []) ≡ Some p → first_invalid place (fs ++ block size bytes holds ∷ []) ≡ Some p
unfolding first_invalid
early place p size bytes holds [] e = absurd cc
early place p size bytes holds (f ∷ fs) e =
    step_some (holds_of f) place p (first_invalid (place + size_of f) (fs ++ block size bytes true ∷ [])) (first_invalid (place + size_of f) (fs ++ block size bytes holds ∷ []))
    (early (place + size_of f) p size bytes holds fs) e

-- where no other fails, the last one fails at its place
last : (place size : ℕ) (bytes : List ℕ) (fs : List Field) → first_invalid place (fs ++ block size bytes true ∷ []) ≡ None → first_invalid place (fs ++ block size bytes false ∷ []) ≡ Some (place + sizes fs)
unfolding first_invalid sizes
last place size bytes [] e = ap (λ (p : ℕ). Some p) (omega arith)
last place size bytes (f ∷ fs) e =
    step_none (holds_of f) place (place + (size_of f + sizes fs)) (first_invalid (place + size_of f) (fs ++ block size bytes true ∷ [])) (first_invalid (place + size_of f) (fs ++ block size bytes false ∷ []))
    (λ none. last (place + size_of f) size bytes fs none ∙ ap (λ (p : ℕ). Some p) (omega arith)) e

numbers_size : (at : ℕ) (n : Numbers68) → sizes (number_fields at n) ≡ 178
unfolding sizes
numbers_size at n = refl

-- ---- what is in the bytes

module _ (cart : List ℕ) (at : ℕ) (bytes : List ℕ) (n : Numbers68) (fits : IsBytes bytes) (stands : (at : ℕ) (holds : Bool) → Stand 0 (fields_by at holds n) bytes) where
  pub keeps : Keeps (chip_fields cart at) bytes n
  keeps = kept (chip_fields cart at) bytes n fits (stands at (asks_more cart (state_from n)))

  -- a rule fails
  pub breaks : (place : ℕ) → first_invalid 0 (fields_by at true n) ≡ Some place → InvalidAt cart at bytes place
  breaks place e = inr (record { saved = n; keeps = keeps; first = early 0 place ram_size n.ram (asks_more cart (state_from n)) (number_fields at n) e })

  -- that of work RAM fails, and no other
  pub breaks_ram : first_invalid 0 (fields_by at true n) ≡ None → asks_more cart (state_from n) ≡ false → InvalidAt cart at bytes 178
  breaks_ram e asks =
      inr (record {
        saved = n;
        keeps = keeps;
        first = subst (λ (b : Bool). first_invalid 0 (fields_by at b n) ≡ Some 178) (sym asks)
            (last 0 ram_size n.ram (number_fields at n) e ∙ ap (λ (p : ℕ). Some (0 + p)) (numbers_size at n));
      })

  pub right : first_invalid 0 (fields_by at true n) ≡ None → asks_more cart (state_from n) ≡ true → IsRight (chip_fields cart at) n
  right e asks = subst (λ (b : Bool). first_invalid 0 (fields_by at b n) ≡ None) (sym asks) e

-- ---- what bytes keep

pub answers_long : (cart : List ℕ) (at : ℕ) (bytes : List ℕ) (n : Numbers68) → Keeps (chip_fields cart at) bytes n → length n.answers ≡ 32
answers_long cart at bytes n keeps = (fit_at (chip_fields cart at n) keeps.within 28).0

pub ram_long : (cart : List ℕ) (at : ℕ) (bytes : List ℕ) (n : Numbers68) → Keeps (chip_fields cart at) bytes n → length n.ram ≡ ram_size
ram_long cart at bytes n keeps = fit_at (chip_fields cart at n) keeps.within 32

pub spelled_by : (cart : List ℕ) (at : ℕ) (bytes : List ℕ) (n : Numbers68) → Keeps (chip_fields cart at) bytes n → IsRight (chip_fields cart at) n → Spells cart at bytes (state_from n)
spelled_by cart at bytes n keeps right =
    let back : numbers_of (state_from n) ≡ n = numbers_back at (asks_more cart (state_from n)) n (answers_long cart at bytes n keeps) (rules_of at (asks_more cart (state_from n)) n right) in
    let both = read_back (table cart at) numbers_of state_from bytes n back keeps right in
    record { keeps = both.0; right = both.1; regs = record { data_registers = refl; address_registers = refl } }

pub no_other : (cart : List ℕ) (at : ℕ) (bytes : List ℕ) (state other : State68) → Spells cart at bytes state → Spells cart at bytes other → state ≡ other
no_other cart at bytes state other p q =
    spelled_once (table cart at) numbers_of state_from bytes state other (state_again state p.regs) (state_again other q.regs) p.keeps q.keeps

pub right_not_refused : (cart : List ℕ) (at : ℕ) (bytes : List ℕ) (state : State68) (place : ℕ) → Spells cart at bytes state → InvalidAt cart at bytes place → ⊥
right_not_refused cart at bytes state place p invalid = not_refused (table cart at) bytes (numbers_of state) p.keeps p.right place invalid

pub spelled_long : (cart : List ℕ) (at : ℕ) (bytes : List ℕ) (state : State68) → Spells cart at bytes state → length bytes ≡ chip_size
spelled_long cart at bytes state p =
    ap length p.keeps.all ∙ long_as (chip_fields cart at (numbers_of state)) p.keeps.within ∙ fields_size at (asks_more cart (state_from (numbers_of state))) (numbers_of state)

-- the 68000 that bytes keep is valid
pub spelled_valid : (cart : List ℕ) (at : ℕ) (bytes : List ℕ) (state : State68) → IsImage cart → Spells cart at bytes state → IsChip68 (of cart state)
spelled_valid cart at bytes state image p =
    let n : Numbers68 = numbers_of state in
    let asks : asks_more cart (state_from n) ≡ true = (rules_of at (asks_more cart (state_from n)) n p.right).ram in
    let rules : Rules at true n = rules_of at true n (subst (λ (b : Bool). first_invalid 0 (fields_by at b n) ≡ None) asks p.right) in
    subst (λ (s : State68). IsChip68 (of cart s)) (state_again state p.regs)
    (valid cart at n image (ram_long cart at bytes n p.keeps) (answers_long cart at bytes n p.keeps) rules asks)
