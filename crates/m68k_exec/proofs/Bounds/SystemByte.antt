-- The status register has no bits but T, S, the interrupt mask, X, N, Z, V and C: what each change of
-- the registers keeps.
use Rattle.std.proofs.Common.{◌≡◌, ℕ, zero, suc, ◌+◌, ◌-◌, ◌*◌, ◌/◌, ◌%◌, ◌^◌, ◌<◌, ◌≤◌, ◌∙◌, Bool, true, false, nat_lt, refl, ap, sym, subst, arith}
use Rattle.std.specs.Prelude.{bit_and, bit_or, if◌then◌else◌}
use Rattle.std.specs.Int.Bits.{and_self, and_shifted, and_step, and_zero_r, or_step}
use Rattle.std.proofs.Math.Arith.{bin_ind}
use Rattle.std.proofs.Math.Nat.{mod-eq_of_lt}
use Rattle.std.proofs.lemmas.Nat.{and_assoc, and_comm, and_le_r, and_mask, and_shr, or_disjoint, or_shr}
use Rattle.std.proofs.lemmas.Nat.Bits.{and_high_mask}
use Rattle.md_word.proofs.Below.{bit_below}
use Rattle.md_word.specs.Fields.{is_supervisor, with_address, with_flags, with_register}
use Rattle.md_word.specs.Coding.{flag_number}
use Rattle.md_word.specs.declared.flags.Flags.{Flags}
use Rattle.md_word.specs.declared.mode.Mode.{Mode}
use Rattle.md_word.specs.declared.mode.Mode.TheVariants.{PostInc, PreDec}
use Rattle.md_word.specs.declared.regs.Regs.{Regs}
use Rattle.md_word.specs.declared.size.Size.{Size}
use Rattle.m68k_ea.specs.Steps.{moved, stepped}
use Rattle.m68k_exec.specs.Sample.Bounds.{IsStatus}
use Rattle.m68k_exec.specs.Sample.Entries.{status_in}
use Rattle.m68k_exec.specs.Rows.Status.{with_ccr, with_sr}
use Rattle.m68k_exec.specs.declared.sample.exception.Exception.{Exception}
use Rattle.m68k_exec.specs.declared.sample.exception.Exception.TheVariants.{AddressError, Interrupt, Numbered}

-- numbers within a mask
or_within : (m a b : ℕ) → bit_and a m ≡ a → bit_and b m ≡ b → bit_and (bit_or a b) m ≡ bit_or a b
or_within =
    bin_ind (λ (m : ℕ). (a b : ℕ) → bit_and a m ≡ a → bit_and b m ≡ b → bit_and (bit_or a b) m ≡ bit_or a b)
    (λ a b h k. let x : a ≡ 0 = sym h ∙ and_zero_r a in let y : b ≡ 0 = sym k ∙ and_zero_r b in rw (x, y) refl)
    (λ m ih a b h k.
    let p : bit_and (a / 2) (m / 2) ≡ a / 2 = sym (and_shr a m 1) ∙ ap (λ x. x / 2) h in
    let q : bit_and (b / 2) (m / 2) ≡ b / 2 = sym (and_shr b m 1) ∙ ap (λ x. x / 2) k in
    let r : bit_and (bit_or a b / 2) (m / 2) ≡ bit_or a b / 2 = ap (λ x. bit_and x (m / 2)) (or_shr a b 1) ∙ ih (a / 2) (b / 2) p q ∙ sym (or_shr a b 1) in
    omega (arith, and_step (bit_or a b) m, and_step a m, and_step b m, or_step a b, r, p, q, h, k))

and_within : (m a k : ℕ) → bit_and a m ≡ a → bit_and (bit_and a k) m ≡ bit_and a k
and_within m a k h =
    and_assoc m a k ∙ ap (bit_and a) (and_comm k m) ∙ sym (and_assoc k a m) ∙ ap (λ x. bit_and x k) h

low_within : (m f k : ℕ) → f < 2 ^ k → bit_and (2 ^ k - 1) m ≡ 2 ^ k - 1 → bit_and f m ≡ f
low_within m f k below h =
    let is : bit_and f (2 ^ k - 1) ≡ f = and_mask f k ∙ mod-eq_of_lt below in
    ap (λ x. bit_and x m) (sym is) ∙ and_assoc m f (2 ^ k - 1) ∙ ap (bit_and f) h ∙ is

-- the low bits of a status register replaced
replaced : (sr f k : ℕ) → k ≤ 16 → IsStatus sr → f < 2 ^ k → IsStatus f → IsStatus (sr / 2 ^ k * 2 ^ k + f)
replaced sr f k within h below g =
    let fits : sr < 2 ^ 16 = (let b = and_le_r sr 0xa71f in omega (arith, b, h)) in
    let high : bit_and sr (2 ^ 16 - 2 ^ k) ≡ sr / 2 ^ k * 2 ^ k = and_high_mask 16 k within sr fits in
    let top : IsStatus (sr / 2 ^ k * 2 ^ k) = subst IsStatus high (and_within 0xa71f sr (2 ^ 16 - 2 ^ k) h) in
    let both : bit_or (sr / 2 ^ k * 2 ^ k) f ≡ sr / 2 ^ k * 2 ^ k + f = or_disjoint _ f (and_shifted (sr / 2 ^ k) k f below) in
    subst IsStatus both (or_within 0xa71f _ f top g)

-- the registers
pub flags : (regs : Regs) (f : Flags) → IsStatus regs.sr → IsStatus (with_flags regs f).sr
unfolding with_flags
flags regs f h =
    let low = flag_number f.x * 16 + flag_number f.n * 8 + flag_number f.z * 4 + flag_number f.v * 2 + flag_number f.c in
    let below : low < 2 ^ 5 = omega (arith, bit_below f.x, bit_below f.n, bit_below f.z, bit_below f.v, bit_below f.c) in
    let e : regs.sr / 2 ^ 5 * 2 ^ 5 + low ≡ regs.sr / 32 * 32 + flag_number f.x * 16 + flag_number f.n * 8 + flag_number f.z * 4 + flag_number f.v * 2 + flag_number f.c = omega arith in
    subst IsStatus e (replaced regs.sr low 5 (omega arith) h below (low_within 0xa71f low 5 below refl))

pub ccr : (value : ℕ) (regs : Regs) → IsStatus regs.sr → IsStatus (with_ccr value regs).sr
ccr value regs h =
    let below : value % 0x20 < 2 ^ 5 = omega arith in
    replaced regs.sr (value % 0x20) 8 (omega arith) h (omega arith) (low_within 0xa71f (value % 0x20) 5 below refl)

pub status : (value : ℕ) (regs : Regs) → IsStatus (with_sr value regs).sr
status value regs = and_assoc 0xa71f value 0xa71f ∙ ap (bit_and value) (and_self 0xa71f)

address_cases : (regs : Regs) (a b : Bool) (one two three : Regs) → one.sr ≡ regs.sr → two.sr ≡ regs.sr → three.sr ≡ regs.sr → (if a then one else (if b then two else three)).sr ≡ regs.sr
address_cases regs true b one two three x y z = x
address_cases regs false true one two three x y z = y
address_cases regs false false one two three x y z = z

address_same : (regs : Regs) (n value : ℕ) → (with_address regs n value).sr ≡ regs.sr
unfolding with_address
address_same regs n value = address_cases regs (nat_lt n 7) (is_supervisor regs) _ _ _ refl refl refl

register_cases : (regs : Regs) (a : Bool) (one two : Regs) → one.sr ≡ regs.sr → two.sr ≡ regs.sr → (if a then one else two).sr ≡ regs.sr
register_cases regs true one two x y = x
register_cases regs false one two x y = y

register_same : (regs : Regs) (n value : ℕ) → (with_register regs n value).sr ≡ regs.sr
unfolding with_register
register_same regs n value = register_cases regs (nat_lt n 8) _ _ refl (address_same regs _ value)

pub address : (regs : Regs) (n value : ℕ) → IsStatus regs.sr → IsStatus (with_address regs n value).sr
address regs n value h = subst IsStatus (sym (address_same regs n value)) h

pub register : (regs : Regs) (n value : ℕ) → IsStatus regs.sr → IsStatus (with_register regs n value).sr
register regs n value h = subst IsStatus (sym (register_same regs n value)) h

pub steps : (mode : Mode) (size : Size) (regs : Regs) → IsStatus regs.sr → IsStatus (stepped mode size regs).sr
unfolding moved
steps (PostInc n) size regs h = address regs n _ h
steps (PreDec n) size regs h = address regs n _ h
steps _ size regs h = h

-- an interrupt's level
level_within : (level : ℕ) → level < 8 → IsStatus (level * 0x100)
level_within zero h = refl
level_within (suc zero) h = refl
level_within (suc (suc zero)) h = refl
level_within (suc (suc (suc zero))) h = refl
level_within (suc (suc (suc (suc zero)))) h = refl
level_within (suc (suc (suc (suc (suc zero))))) h = refl
level_within (suc (suc (suc (suc (suc (suc zero)))))) h = refl
level_within (suc (suc (suc (suc (suc (suc (suc zero))))))) h = refl
level_within (suc (suc (suc (suc (suc (suc (suc (suc k)))))))) h = absurd (omega arith)

abbrev pub HasLevel : Exception → Type 0
HasLevel (Interrupt level) = level < 8
HasLevel _ = Unit {0}

plain_entry : (sr : ℕ) → IsStatus sr → IsStatus (bit_or (bit_and sr 0x7fff) 0x2000)
plain_entry sr h = or_within 0xa71f _ 0x2000 (and_within 0xa71f sr 0x7fff h) refl

pub entry : (exception : Exception) (sr : ℕ) → HasLevel exception → IsStatus sr → IsStatus (status_in exception sr)
entry (Interrupt level) sr l h =
    or_within 0xa71f _ (level * 0x100) (or_within 0xa71f _ 0x2000 (and_within 0xa71f sr 0x78ff h) refl) (level_within level l)
entry (AddressError opcode at read) sr l h = plain_entry sr h
entry (Numbered number) sr l h = plain_entry sr h
