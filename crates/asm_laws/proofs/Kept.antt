-- What a source of one instruction is assembled to keeps it.
use Rattle.std.proofs.Common.{◌≡◌, ℕ, List, ap, ◌∙◌, sym, subst}
use Rattle.md_asm.specs.Assembly.{AssemblyOutcome, assembly}
use Rattle.asm_laws.specs.Sources.{IsMainSource, IsSubSource, KeepsInstruction, KeepsMain, KeepsSub}
use Rattle.asm_laws.proofs.Directive68.{every_round_trip}
use Rattle.asm_laws.proofs.RoundTrip80.{sub_round_trip}

main_keeps : (source : List ℕ) (outcome : AssemblyOutcome) (word : ℕ) (tail : List ℕ) (at : ℕ) → assembly source ≡ outcome → IsMainSource source word tail at
    → KeepsMain outcome word tail at
main_keeps source outcome word tail at is own =
    let made = every_round_trip word tail at own.first own.words own.even own.room in
    subst (λ (o : AssemblyOutcome). KeepsMain o word tail at) (sym made.2 ∙ ap assembly (sym own.text) ∙ is) made.3

sub_keeps : (source : List ℕ) (outcome : AssemblyOutcome) (bytes : List ℕ) (at : ℕ) → assembly source ≡ outcome → IsSubSource source bytes at → KeepsSub outcome bytes
sub_keeps source outcome bytes at is own =
    let made = sub_round_trip bytes at own.all own.address own.instruction in
    subst (λ (o : AssemblyOutcome). KeepsSub o bytes) (sym made.2 ∙ ap assembly (sym own.text) ∙ is) made.3

pub keeps : (source : List ℕ) (outcome : AssemblyOutcome) → assembly source ≡ outcome → KeepsInstruction source outcome
keeps source outcome is = record {
  main_kept = λ word tail at own. main_keeps source outcome word tail at is own;
  sub_kept = λ bytes at own. sub_keeps source outcome bytes at is own;
}
