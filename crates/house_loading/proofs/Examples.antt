-- Tables that are refused, computed. Assumes nothing.
use mathlib.Core.List.{[], ◌∷◌, ◌++◌, flat_map}
use mathlib.Core.Path.{◌≡◌, refl}
use lib.ListN.{set, take}
use Rattle.lines.specs.Line.{digits, decimal, column}
use Rattle.lines.specs.Numeral.{digits_say, column_says, line_says}
use Rattle.basics.specs.Range.{over, times}
use Rattle.house_table.specs.House.{lua}
use Rattle.lua51_lifter.specs.Check.{wrong, first_refusal}
use Rattle.house_loading.specs.Loading.{table_lines, form_verdict, number_verdict, load_verdict}

-- 'a repeated one', 'the later of two equal numbers': 3 in lines 3 and 5
later_of_two : load_verdict (table_lines (set lua 5 3)) ≡ wrong 35 5
unfolding load_verdict first_refusal form_verdict number_verdict line_says column_says digits_say column decimal digits over times flat_map
later_of_two = refl

-- '34, ..; then 35': a carriage return at the end of line 37, and 1 in lines 0 and 1
form_first : load_verdict (take 303 (table_lines (set lua 0 1)) ++ (13 ∷ [])) ≡ wrong 34 37
unfolding load_verdict first_refusal form_verdict number_verdict line_says column_says digits_say column decimal digits over times flat_map
form_first = refl
