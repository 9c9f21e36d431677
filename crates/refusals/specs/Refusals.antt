-- Document 01's number of each refusal ('Where each refusal is checked'), and document 02's of those of a source of words (A.6). Definition.
use Rattle.std.specs.Prelude.{ℕ}
use Rattle.refusals.specs.declared.Refusal.{Refusal}
use Rattle.refusals.specs.declared.Refusal.TheVariants.{Channels, Capacity, CachedShare, InitialShare, IndexAbove, CoordinateCount, BadCoordinate, IndexIsLeaf, NeverWritten, Full, FewWords, TreeEmpty, NotHeld, BadWeight, FewRows, NoSuchNode, OutOfForm, KeyLength, PastStream}

abbrev pub number : Refusal → ℕ
-- '1 channels; 2 capacity; 3 cached share; 4 initial share (sampled only): outside its range or NaN'
number Channels = 1
number Capacity = 2
number CachedShare = 3
number InitialShare = 4
-- '5 index above 1,023; 6 coordinate count; 7 bad coordinate; 8 index is a leaf'
number IndexAbove = 5
number CoordinateCount = 6
number BadCoordinate = 7
number IndexIsLeaf = 8
-- '9 never written; 10' the tree is full; '11' fewer words than are needed; '12 tree empty; 13 value not held; 14 weight'
number NeverWritten = 9
number Full = 10
number FewWords = 11
number TreeEmpty = 12
number NotHeld = 13
number BadWeight = 14
-- '15' too few rows or answer bytes are lent; '16' no such leaf or branch; '17' a text or a run out of form
number FewRows = 15
number NoSuchNode = 16
number OutOfForm = 17
-- A.6: 'A key of another length is 21; next' a word number past the stream, 22
number KeyLength = 21
number PastStream = 22
