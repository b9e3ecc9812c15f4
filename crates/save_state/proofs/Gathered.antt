-- The bytes of the Z80 and of the bus, gathered from their parts and cut again.
use Rattle.std.proofs.Common.{◌≡◌, ℕ, eqb, Bool, true, false, not, List, [], ◌++◌, length, Option, Some, None, is_some, if◌then◌else◌, refl, sym, ap, ◌∙◌, arith}
use Rattle.std.proofs.lemmas.List.{append-nil, length-append}
use Rattle.md_fields.specs.Fields.{spelling}
use Rattle.z80_parcel.specs.Parcels.{Store}
use Rattle.z80_chip.specs.Spelling.{ram_offset as numbers_size, spelled_size}
use Rattle.bus_shared.specs.Spelling.{board_size, lines_size, store_bytes, store_size}
use Rattle.save_state.specs.Layout.{board_part, fm_port_part, gathered, part_of, psg_port_part, shared_parts, state_size, store_part, sub_part, sub_parts, video_part}
use Rattle.save_state.proofs.Parts.{cut, part_long}
use Rattle.vdp_ports.specs.Spelling.{vdp_size}
use Rattle.fm_port.specs.PortSpelling.{port_size as fm_port_size}
use Rattle.psg_sound.specs.PortSpelling.{port_size as psg_port_size}

-- ---- who has RAM

pub zero_one : (has : Bool) (holder : ℕ) → holder ≡ (if has then 1 else 0) → (eqb holder 0 ≡ not has) × (eqb holder 1 ≡ has)
zero_one true holder e = (ap (λ (n : ℕ). eqb n 0) e, ap (λ (n : ℕ). eqb n 1) e)
zero_one false holder e = (ap (λ (n : ℕ). eqb n 0) e, ap (λ (n : ℕ). eqb n 1) e)

pub nothing : (store : Option Store) → is_some store ≡ false → store_bytes store ≡ []
unfolding spelling
nothing None e = refl
nothing (Some store) e = absurd cc

-- ---- gathered

pub gathered_sub : (bytes numbers : List ℕ) (has : Bool) (store : Option Store) → is_some store ≡ has → part_of sub_part bytes ≡ numbers → (has ≡ true → part_of store_part bytes ≡ store_bytes store) → gathered (sub_parts has) bytes ≡ numbers ++ store_bytes store
gathered_sub bytes numbers true store e f g =
    (λ i. f i ++ (g refl i ++ [])) ∙ ap (λ (l : List ℕ). numbers ++ l) (append-nil (store_bytes store))
gathered_sub bytes numbers false store e f g = (λ i. f i ++ []) ∙ ap (λ (l : List ℕ). numbers ++ l) (sym (nothing store e))

pub gathered_shared : (bytes v f p l : List ℕ) (has : Bool) (store : Option Store) → is_some store ≡ has → (has ≡ true → part_of store_part bytes ≡ store_bytes store) → part_of video_part bytes ≡ v → part_of fm_port_part bytes ≡ f → part_of psg_port_part bytes ≡ p → part_of board_part bytes ≡ l → gathered (shared_parts has) bytes ≡ store_bytes store ++ (v ++ (f ++ (p ++ l)))
gathered_shared bytes v f p l true store e g ev ef ep el =
    (λ i. g refl i ++ (ev i ++ (ef i ++ (ep i ++ (el i ++ []))))) ∙ ap (λ (x : List ℕ). store_bytes store ++ (v ++ (f ++ (p ++ x)))) (append-nil l)
gathered_shared bytes v f p l false store e g ev ef ep el =
    (λ i. ev i ++ (ef i ++ (ep i ++ (el i ++ [])))) ∙ ap (λ (x : List ℕ). v ++ (f ++ (p ++ x))) (append-nil l) ∙ ap (λ (x : List ℕ). x ++ (v ++ (f ++ (p ++ l)))) (sym (nothing store e))

-- ---- how long they are

pub sub_gathered_long : (bytes : List ℕ) (has : Bool) → length bytes ≡ state_size → length (gathered (sub_parts has) bytes) ≡ spelled_size has
sub_gathered_long bytes true long =
    omega (arith, length-append (part_of sub_part bytes) (part_of store_part bytes ++ []), length-append (part_of store_part bytes) [], part_long sub_part bytes (omega (arith, long)), part_long store_part bytes (omega (arith, long)))
sub_gathered_long bytes false long =
    omega (arith, length-append (part_of sub_part bytes) [], part_long sub_part bytes (omega (arith, long)))

pub one_size : (a b : Bool) → spelled_size a ≡ spelled_size b → a ≡ b
one_size true true e = refl
one_size true false e = absurd (omega (arith, e))
one_size false true e = absurd (omega (arith, e))
one_size false false e = refl

pub one_store : (a b : Bool) → store_size a ≡ store_size b → a ≡ b
one_store true true e = refl
one_store true false e = absurd (omega (arith, e))
one_store false true e = absurd (omega (arith, e))
one_store false false e = refl

-- ---- cut again

pub cut_sub : (bytes numbers store : List ℕ) (has : Bool) → length bytes ≡ state_size → length numbers ≡ numbers_size → gathered (sub_parts has) bytes ≡ numbers ++ store → (part_of sub_part bytes ≡ numbers) × (has ≡ true → part_of store_part bytes ≡ store)
cut_sub bytes numbers store true long some e =
    let c = cut (part_of sub_part bytes) (part_of store_part bytes ++ []) numbers store (part_long sub_part bytes (omega (arith, long)) ∙ sym some) e in
    (c.0, λ h. sym (append-nil (part_of store_part bytes)) ∙ c.1)
cut_sub bytes numbers store false long some e =
    let c = cut (part_of sub_part bytes) [] numbers store (part_long sub_part bytes (omega (arith, long)) ∙ sym some) e in
    (c.0, λ h. absurd cc)

-- the parts of what the bus keeps, after RAM and bank register
pub record AreAfter (bytes v f p l : List ℕ) : Type 0 where
  pub video : part_of video_part bytes ≡ v
  pub fm_port : part_of fm_port_part bytes ≡ f
  pub psg_port : part_of psg_port_part bytes ≡ p
  pub lines : part_of board_part bytes ≡ l

joined_long : (v f p l : List ℕ) → length v ≡ vdp_size → length f ≡ fm_port_size → length p ≡ psg_port_size → length l ≡ lines_size → length (v ++ (f ++ (p ++ l))) ≡ board_size false
joined_long v f p l a b c d = omega (arith, a, b, c, d, length-append v (f ++ (p ++ l)), length-append f (p ++ l), length-append p l)

after_long : (bytes : List ℕ) → length bytes ≡ state_size → length (gathered (shared_parts false) bytes) ≡ board_size false
after_long bytes long =
    joined_long (part_of video_part bytes) (part_of fm_port_part bytes) (part_of psg_port_part bytes) (part_of board_part bytes ++ [])
    (part_long video_part bytes (omega (arith, long))) (part_long fm_port_part bytes (omega (arith, long))) (part_long psg_port_part bytes (omega (arith, long)))
    (ap length (append-nil (part_of board_part bytes)) ∙ part_long board_part bytes (omega (arith, long)))

cut_after : (bytes v f p l : List ℕ) → length bytes ≡ state_size → length v ≡ vdp_size → length f ≡ fm_port_size → length p ≡ psg_port_size → gathered (shared_parts false) bytes ≡ v ++ (f ++ (p ++ l)) → AreAfter bytes v f p l
cut_after bytes v f p l long a b c e =
    let first = cut (part_of video_part bytes) (part_of fm_port_part bytes ++ (part_of psg_port_part bytes ++ (part_of board_part bytes ++ []))) v (f ++ (p ++ l)) (part_long video_part bytes (omega (arith, long)) ∙ sym a) e in
    let second = cut (part_of fm_port_part bytes) (part_of psg_port_part bytes ++ (part_of board_part bytes ++ [])) f (p ++ l) (part_long fm_port_part bytes (omega (arith, long)) ∙ sym b) first.1 in
    let third = cut (part_of psg_port_part bytes) (part_of board_part bytes ++ []) p l (part_long psg_port_part bytes (omega (arith, long)) ∙ sym c) second.1 in
    record { video = first.0; fm_port = second.0; psg_port = third.0; lines = sym (append-nil (part_of board_part bytes)) ∙ third.1 }

-- RAM and bank register are as long as the parts say, and all is in its part
pub cut_shared : (bytes store v f p l : List ℕ) (has : Bool) → length bytes ≡ state_size → length v ≡ vdp_size → length f ≡ fm_port_size → length p ≡ psg_port_size → length l ≡ lines_size → gathered (shared_parts has) bytes ≡ store ++ (v ++ (f ++ (p ++ l))) → (length store ≡ store_size has) × (has ≡ true → part_of store_part bytes ≡ store) × AreAfter bytes v f p l
cut_shared bytes store v f p l true long a b c d e =
    let rest = joined_long v f p l a b c d in
    let sum : length store ≡ store_size true = omega (arith, ap length e, length-append (part_of store_part bytes) (gathered (shared_parts false) bytes), length-append store (v ++ (f ++ (p ++ l))), part_long store_part bytes (omega (arith, long)), after_long bytes long, rest) in
    let parts = cut (part_of store_part bytes) (gathered (shared_parts false) bytes) store (v ++ (f ++ (p ++ l))) (part_long store_part bytes (omega (arith, long)) ∙ sym sum) e in
    (sum, λ h. parts.0, cut_after bytes v f p l long a b c parts.1)
cut_shared bytes store v f p l false long a b c d e =
    let rest = joined_long v f p l a b c d in
    let sum : length store ≡ 0 = omega (arith, ap length e, length-append store (v ++ (f ++ (p ++ l))), after_long bytes long, rest) in
    let parts = cut [] (gathered (shared_parts false) bytes) store (v ++ (f ++ (p ++ l))) (sym sum) e in
    (sum, λ h. absurd cc, cut_after bytes v f p l long a b c parts.1)
