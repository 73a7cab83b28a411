-- The number of each refusal.
use Rattle.std.specs.Prelude.{ℕ}
use Rattle.refusals.specs.declared.refusal.Refusal.{Refusal}
use Rattle.refusals.specs.declared.refusal.Refusal.TheVariants.{StartOffMap, GoalOffMap, StartLoadNotAdmitted, DeadlineTooLate, LabelTableSize, WaitingTableTooShort, BudgetOutOfRange, CapacityOutOfRange, JunctionOffMap, PlaceAboveEleven, HeaterPowerTooHigh, RoadTimeOutOfRange, RoadDrawOutOfRange, TableLengthsDisagree, CountAboveTwelve, HeadOffMap, EstateSizeOutOfRange, EstateDrawTooHigh, BufferTooShort, WrongNames, FieldCountDiffers, NotAValue, JunctionBeyondRoom, ThirteenthRoad, LineNotEnded, FileUnreadable, NotBegun, NotAsBegun, LabelNotListed, PlaceAlreadyShut, PlaceNotShut, SixtyFourShut, NotPlainProfile}

abbrev pub number : Refusal → ℕ
-- caused by what a call is given
number StartOffMap = 1
number GoalOffMap = 2
number StartLoadNotAdmitted = 3
number DeadlineTooLate = 4
number LabelTableSize = 5
number WaitingTableTooShort = 6
number BudgetOutOfRange = 7
number CapacityOutOfRange = 8
number JunctionOffMap = 9
number PlaceAboveEleven = 10
number HeaterPowerTooHigh = 11
number RoadTimeOutOfRange = 12
number RoadDrawOutOfRange = 13
number TableLengthsDisagree = 14
number CountAboveTwelve = 15
number HeadOffMap = 16
number EstateSizeOutOfRange = 17
number EstateDrawTooHigh = 18
number (BufferTooShort needed) = 19
number WrongNames = 20
number FieldCountDiffers = 21
number NotAValue = 22
number JunctionBeyondRoom = 23
number ThirteenthRoad = 24
number LineNotEnded = 25
number FileUnreadable = 26
-- caused by the state that a call finds
number NotBegun = 31
number NotAsBegun = 32
number LabelNotListed = 33
number PlaceAlreadyShut = 34
number PlaceNotShut = 35
number SixtyFourShut = 36
number NotPlainProfile = 37
