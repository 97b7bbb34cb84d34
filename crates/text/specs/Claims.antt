-- What is proved of the listing's definitions (the proofs are in proofs/, under the same names in snake case).
use Rattle.std.specs.Prelude.{◌≡◌, [], ◌∷◌, Some, None, Ok, Err}
use Rattle.line.specs.declared.Reason.TheVariants.{OwnBag, HeldBy}
use Rattle.line.specs.declared.Refusal.TheVariants.{Held}
use Rattle.line.specs.Message.{introduction}
use Rattle.line.specs.Node.{at_site}
use Rattle.line.specs.Situations.{staying, leaving}
use Rattle.words.specs.Words.{ascii}
use Rattle.text.specs.Listing.{station_text, listing_text}

-- "For 3 (right 5), 5 (left 3, right 9, bag i7), 7 (no neighbours), 9 (left 5), all staying, and the one step 'deliver to 5 introduction
-- 7'": the line after that step, and its listing.
pub record ListingExample : Type 0 where
  pub listing :
      listing_text (Ok (Ok tt)) 1 4 (staying 3 None (Some 5) [] ∷ staying 5 (Some 3) (Some 7) [] ∷ staying 7 None None (introduction 9 ∷ []) ∷ staying 9 (Some 5) None [] ∷ [])
      ≡ ascii "answer 0 done 1 stations 4\n3 - 5 stay\n5 3 7 stay\n7 - - stay i9\n9 5 - stay\n"

-- "the printed first line then ends in `bag`, or `held-by` and the station number" (document 02, T-02): 5 would leave and has a message in
-- its bag; 5 would leave and is the right neighbour of 3.
pub record ReasonExamples : Type 0 where
  pub own_bag :
      listing_text (Ok (Err (Held OwnBag))) 0 1 (leaving 5 None None (introduction 5 ∷ []) ∷ [])
      ≡ ascii "answer 14 done 0 stations 1 bag\n5 - - leave i5\n"
  pub holder :
      listing_text (Ok (Err (Held (HeldBy 3)))) 2 2 (staying 3 None (Some 5) [] ∷ leaving 5 None None [] ∷ [])
      ≡ ascii "answer 14 done 2 stations 2 held-by 3\n3 - 5 stay\n5 - - leave\n"

-- "its code at the end as one word, `@` with the number, or nothing for 0" (document 02, T-05): behind the last message; of a station without
-- messages; the largest code; and of a station without a code, whose line is as it was.
pub record SiteExamples : Type 0 where
  pub behind : station_text (at_site 1234 (leaving 5 (Some 3) None (introduction 7 ∷ []))) ≡ ascii "5 3 - leave i7 @1234\n"
  pub alone : station_text (at_site 7 (staying 5 None None [])) ≡ ascii "5 - - stay @7\n"
  pub largest : station_text (at_site 9999 (staying 999999 None None [])) ≡ ascii "999999 - - stay @9999\n"
  pub nothing : station_text (at_site 0 (staying 5 None (Some 9) (introduction 7 ∷ []))) ≡ ascii "5 - 9 stay i7\n"
