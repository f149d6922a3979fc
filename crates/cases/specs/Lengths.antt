-- P10's lengths: 'Length 65,536 is not 1; 65,537 is.' A claim on every list of that length, however its words are put back.
use Rattle.std.specs.Prelude.{ℕ, ◌≡◌, List, length}
use Rattle.judging.specs.Judge.{refusal, judge}

pub record Lengths : Type 0 where
  pub stands : (back : ℕ → ℕ) (s : List ℕ) → length s ≡ 65536 → (f p : ℕ) → judge back s ≡ refusal 1 f p → ⊥
  pub refused : (back : ℕ → ℕ) (s : List ℕ) → length s ≡ 65537 → judge back s ≡ refusal 1 0 0
