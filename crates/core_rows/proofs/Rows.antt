-- Worked fields and records.
use Rattle.std.proofs.Common.{◌≡◌, refl, pos, negsuc, [], ◌∷◌, map, codes, Some, None}
use Rattle.csv.proofs.OnLiterals.{csv_on_literals}
use Rattle.jiff_core.specs.Calendar.{days_from_civil, day_count, days_of_years, days_of_months}
use Rattle.std.specs.Fmt.{digits}
use Rattle.core_rows.specs.Fields.{records, name_of, whole, wide, day_of, number_text, row_text}

quoted : records (codes "a,\"b,c\"\nd\n") ≡ (codes "a" ∷ codes "b,c" ∷ []) ∷ (codes "d" ∷ []) ∷ []
unfolding csv_on_literals
quoted = refl

high_byte : records (255 ∷ codes ",b\nd\n") ≡ ((255 ∷ []) ∷ codes "b" ∷ []) ∷ (codes "d" ∷ []) ∷ []
unfolding csv_on_literals
high_byte = refl

-- a mark at the head is no part of a text
marked : map records ((0xEF ∷ 0xBB ∷ 0xBF ∷ codes "a,b\n") ∷ (0xEF ∷ 0xBB ∷ 0xBF ∷ []) ∷ [] ∷ [])
    ≡ ((codes "a" ∷ codes "b" ∷ []) ∷ []) ∷ [] ∷ [] ∷ []
unfolding csv_on_literals
marked = refl

numbers : map whole (codes "0" ∷ codes "-7" ∷ codes "007" ∷ codes "+7" ∷ codes "-0" ∷ [] ∷ codes "9223372036854775808" ∷ codes "9223372036854775807" ∷ [])
    ≡ Some (pos 0) ∷ Some (negsuc 6) ∷ None ∷ None ∷ None ∷ None ∷ None ∷ Some (pos 9223372036854775807) ∷ []
numbers = refl

wide_numbers : map wide (codes "9223372036854775808" ∷ codes "-170141183460469231731687303715884105727" ∷ codes "170141183460469231731687303715884105728" ∷ codes "-" ∷ [])
    ≡ Some (pos 9223372036854775808) ∷ Some (negsuc 170141183460469231731687303715884105726) ∷ None ∷ None ∷ []
wide_numbers = refl

names : map name_of (codes "IND" ∷ codes "7" ∷ codes "ABCDEFGHIJ12" ∷ codes "ABCDEFGHIJ123" ∷ codes "Ind" ∷ codes "A-B" ∷ [] ∷ [])
    ≡ Some (codes "IND") ∷ Some (codes "7") ∷ Some (codes "ABCDEFGHIJ12") ∷ None ∷ None ∷ None ∷ None ∷ []
names = refl

dates : map day_of (codes "2024-04-26" ∷ codes "1970-01-01" ∷ codes "2024-02-30" ∷ codes "1899-12-31" ∷ codes "2024-02-29" ∷ codes "0000-01-01" ∷ codes "2024-13-01" ∷ codes "2024-4-26" ∷ [])
    ≡ Some (pos 19839) ∷ Some (pos 0) ∷ None ∷ Some (negsuc 25567) ∷ Some (pos 19782) ∷ None ∷ None ∷ None ∷ []
unfolding days_from_civil day_count days_of_years days_of_months
dates = refl

row : row_text (codes "full" ∷ codes "IND" ∷ number_text (negsuc 13) ∷ []) ≡ codes "full,IND,-14\n"
unfolding digits
row = refl
