-- Laws of what a saved state keeps of the VDP.
use Rattle.std.proofs.Common.{◌≡◌, ℕ, ◌≤◌, Bool, true, false, List, refl, sym, ap, ◌∙◌, arith}
use Rattle.std.proofs.lemmas.Bool.{leb-true}
use Rattle.md_fields.specs.Fields.{sizes, spelling}
use Rattle.md_fields.specs.Items.{IsRight, Keeps}
use Rattle.md_fields.proofs.Flags.{flag_again, flag_back}
use Rattle.md_fields.proofs.Values.{Table, list_in, number_in, one_saved, read_back, rule_at, values_at}
use Rattle.md_word.specs.Coding.{flag_number}
use Rattle.vdp_ports.specs.Numbers.{VdpNumbers, numbers_of, vdp_of}
use Rattle.vdp_ports.specs.Saved.{vdp_fields}
use Rattle.vdp_ports.specs.Spelling.{Spells, vdp_size}
use Rattle.vdp_ports.specs.Vdp.{Vdp}

-- the bytes depend neither on the cycle nor on the region
pub same_bytes : (at other : ℕ) (pal region : Bool) (n : VdpNumbers) → spelling (vdp_fields at pal n) ≡ spelling (vdp_fields other region n)
unfolding spelling
same_bytes at other pal region n = refl

pub fields_size : (at : ℕ) (pal : Bool) (n : VdpNumbers) → sizes (vdp_fields at pal n) ≡ vdp_size
unfolding sizes
fields_size at pal n = refl

-- the fields, and the numbers of their values
pub table : (at : ℕ) (pal : Bool) → Table vdp_size (vdp_fields at pal)
unfolding sizes values_at
table at pal = record {
  back = λ values. record {
    registers = list_in values 0;
    vram = list_in values 1;
    cram = list_in values 2;
    vsram = list_in values 3;
    pending = number_in values 4;
    code = number_in values 5;
    a = number_in values 6;
    armed = number_in values 7;
    dma_kind = number_in values 8;
    byte = number_in values 9;
    source = number_in values 10;
    address = number_in values 11;
    left = number_in values 12;
    next_stamp = number_in values 13;
    vertical = number_in values 14;
    horizontal = number_in values 15;
    overflow = number_in values 16;
    collision = number_in values 17;
    line_counter = number_in values 18;
    int_from = number_in values 19;
    int_to = number_in values 20;
    tall = number_in values 21;
  };
  again = λ s. refl;
  alike = λ s t bytes. refl;
  sized = λ s. refl;
}

-- a VDP is that of its numbers
pub vdp_again : (s : Vdp) → vdp_of s.pal (numbers_of s) ≡ s
vdp_again s = λ i. record s {
  pending = flag_again s.pending i;
  armed = flag_again s.armed i;
  vertical = flag_again s.vertical i;
  horizontal = flag_again s.horizontal i;
  overflow = flag_again s.overflow i;
  collision = flag_again s.collision i;
  tall = flag_again s.tall i;
}

-- what is at most a flag is at most 1
flag_below : (n : ℕ) (flag : Bool) → n ≤ flag_number flag → n ≤ 1
flag_below n true l = l
flag_below n false l = omega (arith, l)

-- the numbers that are right are those of their VDP
pub numbers_back : (at : ℕ) (pal : Bool) (n : VdpNumbers) → IsRight (vdp_fields at pal) n → numbers_of (vdp_of pal n) ≡ n
numbers_back at pal n right =
    let rule = rule_at 0 (vdp_fields at pal n) right in
    λ i. record n {
      pending = flag_back n.pending (leb-true n.pending 1 (rule 4)) i;
      armed = flag_back n.armed (leb-true n.armed 1 (rule 7)) i;
      vertical = flag_back n.vertical (leb-true n.vertical 1 (rule 14)) i;
      horizontal = flag_back n.horizontal (leb-true n.horizontal 1 (rule 15)) i;
      overflow = flag_back n.overflow (leb-true n.overflow 1 (rule 16)) i;
      collision = flag_back n.collision (leb-true n.collision 1 (rule 17)) i;
      tall = flag_back n.tall (flag_below n.tall pal (leb-true n.tall (flag_number pal) (rule 21))) i;
    }

-- ---- what bytes keep

pub read_spells : (at : ℕ) (pal : Bool) (bytes : List ℕ) (n : VdpNumbers) → Keeps (vdp_fields at pal) bytes n → IsRight (vdp_fields at pal) n → Spells at pal bytes (vdp_of pal n)
read_spells at pal bytes n keeps right =
    let both = read_back (table at pal) numbers_of (vdp_of pal) bytes n (numbers_back at pal n right) keeps right in
    record { keeps = both.0; right = both.1; region = refl }

pub no_other : (at : ℕ) (pal : Bool) (bytes : List ℕ) (n : VdpNumbers) (s : Vdp) → Keeps (vdp_fields at pal) bytes n → Spells at pal bytes s → vdp_of pal n ≡ s
no_other at pal bytes n s keeps p =
    ap (vdp_of pal) (one_saved (table at pal) bytes n (numbers_of s) keeps p.keeps)
    ∙ ap (λ (b : Bool). vdp_of b (numbers_of s)) (sym p.region) ∙ vdp_again s
