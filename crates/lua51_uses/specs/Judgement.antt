-- What the code goes by where it judges the words of a function (document 01, 'Refusals from the input').
use Rattle.std.specs.Prelude.{ℕ, ◌-◌, false, List, ◌≡◌}
use Rattle.lua51_instruction.specs.Proto.{Proto, size}
use Rattle.lua51_lifter.specs.Check.{Verdict, refuse_if, ◌else◌, head_fault, last_fault, first_refusal, word_verdict, reached}
use Rattle.cfg.specs.Graph.{leader}
use Rattle.lua51_reach.specs.Targets.{Marked}
use Rattle.lua51_uses.specs.declared.survey.Survey.{Survey}

-- 7; 8; and 9 to 11 of every word: what is judged before the leaders are marked
abbrev pub check_words : Proto → Verdict
check_words p =
    refuse_if (head_fault p) 7 0 else refuse_if (last_fault p) 8 (size p - 1) else first_refusal (word_verdict p) 0 (size p)

-- p has the words ws and us as the counts of its nested functions' upvalues, its last word is RETURN, and ls and ts mark its
-- leaders, and its jump targets and skips
pub record Surveyed (p : Proto) (ws us ls ts : List ℕ) : Type 0 where
  pub words : p.words ≡ ws
  pub nups : p.nups ≡ us
  pub last : last_fault p ≡ false
  pub leaders : Marked (leader p) (size p) ls
  pub targets : Marked (reached p) (size p) ts

-- the same, of what the code has of p
abbrev pub Surveys : Proto → Survey → Type 0
Surveys p s = Surveyed p s.words.now s.nups.now s.leaders.now s.targets.now
