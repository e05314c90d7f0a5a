-- The refusals of the whole product: each case's number, the place that it names, and its words.
--     number_of     the number of a refusal, 1 to 17
--     place_of      the sector named by 9, 10 and 11, the page named by 13, and none for the others
--     words_of      the words of a report, as ASCII codes
--     text_of       a refusal as it is printed: the number, a space and the words
use Rattle.std.specs.Prelude.{ℕ, List, ◌++◌, Some, None, codes, decimal, Option}
use Rattle.refusal.specs.declared.Refusal.{Refusal}
use Rattle.refusal.specs.declared.Refusal.TheVariants.{VolumeDown, BadName, TooLong, VersionAbove, RegisterFull, NoRun, NoSuchFile, BufferShort, PowerOff, Unreadable, LeaderDiffers, NoVolume, RegisterBroken, NumbersUsedUp, BadNumbers, NoSuchSector, VolumeUp}

abbrev pub number_of : Refusal → ℕ
number_of VolumeDown = 1
number_of BadName = 2
number_of TooLong = 3
number_of VersionAbove = 4
number_of RegisterFull = 5
number_of NoRun = 6
number_of NoSuchFile = 7
number_of BufferShort = 8
number_of (PowerOff sector) = 9
number_of (Unreadable sector) = 10
number_of (LeaderDiffers sector) = 11
number_of NoVolume = 12
number_of (RegisterBroken page) = 13
number_of NumbersUsedUp = 14
number_of BadNumbers = 15
number_of NoSuchSector = 16
number_of VolumeUp = 17

abbrev pub place_of : Refusal → Option ℕ
place_of VolumeDown = None
place_of BadName = None
place_of TooLong = None
place_of VersionAbove = None
place_of RegisterFull = None
place_of NoRun = None
place_of NoSuchFile = None
place_of BufferShort = None
place_of (PowerOff sector) = Some sector
place_of (Unreadable sector) = Some sector
place_of (LeaderDiffers sector) = Some sector
place_of NoVolume = None
place_of (RegisterBroken page) = Some page
place_of NumbersUsedUp = None
place_of BadNumbers = None
place_of NoSuchSector = None
place_of VolumeUp = None

abbrev pub words_of : Refusal → List ℕ
words_of VolumeDown = codes "volume down"
words_of BadName = codes "bad name"
words_of TooLong = codes "too long"
words_of VersionAbove = codes "version above 9,999"
words_of RegisterFull = codes "register full"
words_of NoRun = codes "no run of sectors"
words_of NoSuchFile = codes "no such file"
words_of BufferShort = codes "buffer short"
words_of (PowerOff sector) = codes "power off"
words_of (Unreadable sector) = codes "unreadable"
words_of (LeaderDiffers sector) = codes "leader differs"
words_of NoVolume = codes "no volume"
words_of (RegisterBroken page) = codes "register broken"
words_of NumbersUsedUp = codes "numbers used up"
words_of BadNumbers = codes "bad numbers"
words_of NoSuchSector = codes "no such sector"
words_of VolumeUp = codes "volume up"

abbrev pub text_of : Refusal → List ℕ
text_of refusal = decimal (number_of refusal) ++ codes " " ++ words_of refusal
