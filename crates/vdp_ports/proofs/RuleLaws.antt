-- The rules of the fields are those that the ports keep, where a fill or copy in progress is settled.
use Rattle.std.proofs.Common.{◌≡◌, ℕ, zero, suc, ◌-◌, ◌%◌, ◌^◌, slice_index, ◌<◌, ◌≤◌, inl, inr, Bool, true, false, cond, eqb, leb, ltb, bit_and, List, refl, arith}
use Rattle.std.specs.Prelude.{◌&&◌, ◌||◌, All}
use Rattle.std.proofs.lemmas.Bool.{and_parts, eq-eqb, eqb-true, le-leb, leb-true, lt-ltb, ltb-true, and_from, or_left, or_right, or_cases}
use Rattle.std.specs.List.{AllByRecursion}
use Rattle.std.proofs.lemmas.List.Elements.{All-from_get_or, recursion_from_All}
use Rattle.std.proofs.lemmas.List.Sums.{AllPass-from_list_all, list_all-from_AllPass}
use Rattle.md_fields.specs.Distances.{is_after}
use Rattle.md_fields.specs.Fields.{AllHold, AreWithin}
use Rattle.md_fields.specs.Items.{IsRight}
use Rattle.md_fields.proofs.Items.{rules_hold, none_invalid}
use Rattle.md_word.specs.Clock.{line}
use Rattle.md_word.specs.Coding.{flag_number}
pub use Rattle.md_fields.proofs.Flags.{flag_byte, flag_small}
use Rattle.vdp_ports.specs.Numbers.{numbers_of}
use Rattle.vdp_ports.specs.Ranges.{IsInRange}
use Rattle.vdp_ports.specs.Rules.{IsGoing, IsInterruptInterval}
use Rattle.vdp_ports.specs.Saved.{have_only, vdp_fields}
use Rattle.vdp_ports.specs.Spelling.{IsSettled, Spells, vdp_bytes}
use Rattle.vdp_ports.specs.Vdp.{Vdp}
use Rattle.vdp_ports.proofs.SavedLaws.{same_bytes}

-- ---- colours and scrolls

only_from : (bits : ℕ) (ws : List ℕ) → have_only bits ws ≡ true → All (λ w. bit_and w bits ≡ w) ws
only_from bits ws e =
    let p = AllPass-from_list_all (λ w. eqb (bit_and w bits) w) ws e in
    λ k d lt. eqb-true _ _ (p k d lt)

only_to : (bits : ℕ) (ws : List ℕ) → All (λ w. bit_and w bits ≡ w) ws → have_only bits ws ≡ true
only_to bits ws h = list_all-from_AllPass (λ w. eqb (bit_and w bits) w) ws (λ k d lt. eq-eqb _ _ (h k d lt))

-- ---- a fill or copy

-- the rules on the six fields of a fill or copy
record Goes (at kind b s a l n : ℕ) : Type 0 where
  pub known : leb kind 2 ≡ true
  pub byte : (eqb kind 1 || eqb b 0) ≡ true
  pub source : (eqb kind 2 || eqb s 0) ≡ true
  pub address : cond (eqb kind 0) (eqb a 0) true ≡ true
  pub left : cond (eqb kind 0) (eqb l 0) (leb 1 l && leb l 0x1_0000) ≡ true
  pub next : cond (eqb kind 0) (eqb n 0) (leb at n && leb (n - at) (cond (eqb kind 1) 16 33)) ≡ true

goes_from : (at kind byte source address left next : ℕ) → Goes at kind byte source address left next → IsGoing at kind byte source address left next × (0 < left → at ≤ next)
goes_from at zero byte source address left next g = (
  record {
    known = omega arith;
    none = λ e. (eqb-true _ _ g.byte, eqb-true _ _ g.source, eqb-true _ _ g.address, eqb-true _ _ g.left, eqb-true _ _ g.next);
    fill = λ e. absurd (omega (arith, e));
    copy = λ e. absurd (omega (arith, e));
  },
  λ some. absurd (let none = eqb-true left 0 g.left in omega (arith, none, some)),
)
goes_from at (suc zero) byte source address left next g =
    let l = and_parts _ _ g.left in
    let n = and_parts _ _ g.next in
    let some = leb-true 1 left l.0 in
    let most = leb-true left 0x1_0000 l.1 in
    let from = leb-true at next n.0 in
    let near = leb-true (next - at) 16 n.1 in (
      record {
        known = omega arith;
        none = λ e. absurd (omega (arith, e));
        fill = λ e. (eqb-true _ _ g.source, omega (arith, some), most, omega (arith, from, near));
        copy = λ e. absurd (omega (arith, e));
      },
      λ _. from,
    )
goes_from at (suc (suc zero)) byte source address left next g =
    let l = and_parts _ _ g.left in
    let n = and_parts _ _ g.next in
    let some = leb-true 1 left l.0 in
    let most = leb-true left 0x1_0000 l.1 in
    let from = leb-true at next n.0 in
    let near = leb-true (next - at) 33 n.1 in (
      record {
        known = omega arith;
        none = λ e. absurd (omega (arith, e));
        fill = λ e. absurd (omega (arith, e));
        copy = λ e. (eqb-true _ _ g.byte, omega (arith, some), most, omega (arith, from, near));
      },
      λ _. from,
    )
goes_from at (suc (suc (suc kind))) byte source address left next g = absurd (let few = leb-true (suc (suc (suc kind))) 2 g.known in omega (arith, few))

goes_to : (at kind byte source address left next : ℕ) → IsGoing at kind byte source address left next → (0 < left → at ≤ next) → Goes at kind byte source address left next
goes_to at zero byte source address left next g settled =
    let z = g.none refl in
    record { known = refl; byte = eq-eqb _ _ z.0; source = eq-eqb _ _ z.1; address = eq-eqb _ _ z.2; left = eq-eqb _ _ z.3; next = eq-eqb _ _ z.4 }
goes_to at (suc zero) byte source address left next g settled =
    let f = g.fill refl in
    let from = settled f.1 in
    record {
      known = refl;
      byte = refl;
      source = eq-eqb _ _ f.0;
      address = refl;
      left = and_from _ _ (le-leb 1 left (omega (arith, f.1))) (le-leb left 0x1_0000 f.2);
      next = and_from _ _ (le-leb at next from) (le-leb (next - at) 16 (omega (arith, from, f.3)));
    }
goes_to at (suc (suc zero)) byte source address left next g settled =
    let f = g.copy refl in
    let from = settled f.1 in
    record {
      known = refl;
      byte = eq-eqb _ _ f.0;
      source = refl;
      address = refl;
      left = and_from _ _ (le-leb 1 left (omega (arith, f.1))) (le-leb left 0x1_0000 f.2);
      next = and_from _ _ (le-leb at next from) (le-leb (next - at) 33 (omega (arith, from, f.3)));
    }
goes_to at (suc (suc (suc kind))) byte source address left next g settled = absurd (omega (arith, g.known))

-- ---- the Z80's interrupt

abbrev interval : ℕ → ℕ → ℕ → Bool
interval at from to = (eqb from 0 && eqb to 0) || (eqb (from % line) 0 && (ltb from at && is_after to from line))

interval_from : (at from to : ℕ) → interval at from to ≡ true → IsInterruptInterval at from to
interval_from at from to e =
    elim (or_cases (eqb from 0 && eqb to 0) _ e) [
      | inl none ↦ (let p = and_parts _ _ none in inl (eqb-true _ _ p.0, eqb-true _ _ p.1))
      | inr some ↦
          (let p = and_parts _ _ some in
          let q = and_parts _ _ p.1 in
          let r = and_parts _ _ q.1 in
          let le = leb-true from to r.0 in
          let far = eqb-true (to - from) line r.1 in
          inr (eqb-true _ _ p.0, ltb-true from at q.0, omega (arith, le, far)))
    ]

interval_to : (at from to : ℕ) → IsInterruptInterval at from to → interval at from to ≡ true
interval_to at from to (inl none) = or_left (eqb from 0 && eqb to 0) _ (and_from _ _ (eq-eqb _ _ none.0) (eq-eqb _ _ none.1))
interval_to at from to (inr some) =
    or_right (eqb from 0 && eqb to 0) _
    (and_from _ _ (eq-eqb _ _ some.0)
    (and_from _ _ (lt-ltb from at some.1)
    (and_from _ _ (le-leb from to (omega (arith, some.2))) (eq-eqb (to - from) line (omega (arith, some.2))))))

-- ---- the height of the display

region_from : (tall pal : Bool) → leb (flag_number tall) (flag_number pal) ≡ true → tall ≡ true → pal ≡ true
region_from true true e f = refl
region_from true false e f = absurd (cc e)
region_from false pal e f = absurd (cc f)

region_to : (tall pal : Bool) → (tall ≡ true → pal ≡ true) → leb (flag_number tall) (flag_number pal) ≡ true
region_to true true h = refl
region_to true false h = absurd (cc (h refl))
region_to false true h = refl
region_to false false h = refl

-- ---- all of them

pub settled_from : (at : ℕ) (s : Vdp) → IsRight (vdp_fields at s.pal) (numbers_of s) → IsSettled at s
unfolding AllHold
settled_from at s right =
    let h0 = rules_hold 0 (vdp_fields at s.pal (numbers_of s)) right in
    let h1 = h0.1 in
    let h2 = h1.1 in
    let h3 = h2.1 in
    let h4 = h3.1 in
    let h5 = h4.1 in
    let h6 = h5.1 in
    let h7 = h6.1 in
    let h8 = h7.1 in
    let h9 = h8.1 in
    let h10 = h9.1 in
    let h11 = h10.1 in
    let h12 = h11.1 in
    let h13 = h12.1 in
    let h14 = h13.1 in
    let h15 = h14.1 in
    let h16 = h15.1 in
    let h17 = h16.1 in
    let h18 = h17.1 in
    let h19 = h18.1 in
    let h20 = h19.1 in
    let h21 = h20.1 in
    let goes = goes_from at s.dma_kind s.byte s.source s.address s.left s.next_stamp (record { known = h8.0; byte = h9.0; source = h10.0; address = h11.0; left = h12.0; next = h13.0 }) in
    record {
      rules = record {
        code = ltb-true s.code 64 h5.0;
        cram = only_from 0x0eee s.cram h2.0;
        vsram = only_from 0x07ff s.vsram h3.0;
        going = goes.0;
        interval = interval_from at s.int_from s.int_to h20.0;
        region = region_from s.tall s.pal h21.0;
      };
      settled = goes.1;
    }

pub right_to : (at : ℕ) (s : Vdp) → IsSettled at s → IsRight (vdp_fields at s.pal) (numbers_of s)
unfolding AllHold
right_to at s is =
    let r = is.rules in
    let g = goes_to at s.dma_kind s.byte s.source s.address s.left s.next_stamp r.going is.settled in
    none_invalid 0 (vdp_fields at s.pal (numbers_of s)) (
      refl,
      (
        refl,
        (
          only_to 0x0eee s.cram r.cram,
          (
            only_to 0x07ff s.vsram r.vsram,
            (
              flag_small s.pending,
              (
                lt-ltb s.code 64 r.code,
                (
                  refl,
                  (
                    flag_small s.armed,
                    (
                      g.known,
                      (
                        g.byte,
                        (
                          g.source,
                          (
                            g.address,
                            (
                              g.left,
                              (
                                g.next,
                                (flag_small s.vertical, (flag_small s.horizontal, (flag_small s.overflow, (flag_small s.collision, (refl, (refl, (interval_to at s.int_from s.int_to r.interval, (region_to s.tall s.pal r.region, tt)))))))),
                              ),
                            ),
                          ),
                        ),
                      ),
                    ),
                  ),
                ),
              ),
            ),
          ),
        ),
      ),
    )

-- ---- what is spelled is read again

are_words : (ws : List ℕ) → ((k : ℕ) → slice_index ws k < 2 ^ 16) → AllByRecursion (λ n. n < 2 ^ 16) ws
are_words ws h = recursion_from_All (λ n. n < 2 ^ 16) ws (All-from_get_or (λ n. n < 2 ^ 16) ws 0 (λ k lt. h k))

within : (at : ℕ) (s : Vdp) → IsInRange s → AreWithin (vdp_fields at s.pal (numbers_of s))
unfolding AreWithin
within at s r = (
  r.sizes.of_registers,
  (
    r.sizes.of_vram,
    (
      (r.sizes.of_cram, are_words s.cram r.cram),
      (
        (r.sizes.of_vsram, are_words s.vsram r.vsram),
        (
          flag_byte s.pending,
          (
            r.code,
            (
              r.a,
              (
                flag_byte s.armed,
                (
                  r.dma_kind,
                  (
                    r.byte,
                    (
                      r.source,
                      (
                        r.address,
                        (
                          r.left,
                          (
                            r.next_stamp,
                            (flag_byte s.vertical, (flag_byte s.horizontal, (flag_byte s.overflow, (flag_byte s.collision, (r.line_counter, (r.int_from, (r.int_to, (flag_byte s.tall, tt)))))))),
                          ),
                        ),
                      ),
                    ),
                  ),
                ),
              ),
            ),
          ),
        ),
      ),
    ),
  ),
)

pub spelled_back : (at : ℕ) (s : Vdp) → IsInRange s → IsSettled at s → Spells at s.pal (vdp_bytes s) s
spelled_back at s range is = record {
  keeps = record { within = within at s range; all = same_bytes 0 at false s.pal (numbers_of s) };
  right = right_to at s is;
  region = refl;
}
