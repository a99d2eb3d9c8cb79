-- The number of each refusal, and the value returned with it. Assumes nothing.
use Rattle.std.specs.Prelude.{ℕ}
use Rattle.sheet.specs.declared.refusal.Part.{Part}
use Rattle.sheet.specs.declared.refusal.Part.TheVariants.{Sheet, Row, Stack, Weights}
use Rattle.sheet.specs.declared.refusal.Refusal.{Refusal}
use Rattle.sheet.specs.declared.refusal.Refusal.TheVariants.{TooManyItems, RowTooShort, BadLiteral, TooManySofts, TotalTooLarge, WordsDoNotFit, NoRowForLabels, NotTogether, AnswerLength, NeitherYesNorNo, ClauseUnmet, UnknownLetter}

abbrev pub part_number : Part → ℕ
part_number Sheet = 1
part_number Row = 2
part_number Stack = 3
part_number Weights = 4

-- number, then value
abbrev pub told : Refusal → ℕ × ℕ
-- open: more than 2,000 items; how many were asked for
told (TooManyItems asked) = (1, asked)
-- open: the row is shorter than the items; its length
told (RowTooShort length) = (2, length)
-- add: a literal 0 or beyond the items; its place from 0
told (BadLiteral place) = (3, place)
-- add of a soft: 2,000 softs kept, or the weights full; softs kept
told (TooManySofts kept) = (4, kept)
-- add: the total passes the ceiling; the ordinal that the soft would have had
told (TotalTooLarge ordinal) = (5, ordinal)
-- add: the words do not fit; how many they are
told (WordsDoNotFit words) = (6, words)
-- close: the row is too short for the labels; items needed
told (NoRowForLabels needed) = (7, needed)
-- all calls but open, deliver and settle: the buffers do not hold together; the first part that fails
told (NotTogether part) = (8, part_number part)
-- unwind: the answer has another length than the item count; the item count
told (AnswerLength items) = (9, items)
-- unwind: a byte above 1; its place from 0
told (NeitherYesNorNo place) = (10, place)
-- unwind: a clause is unmet; the first such, from 0
told (ClauseUnmet place) = (11, place)
-- schedule: an unknown letter; its place from 0
told (UnknownLetter place) = (12, place)
