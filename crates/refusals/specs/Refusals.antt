-- Documents 01 and 02, "Numbers answered, in the order tried": the number of each refusal, its words, and what a call answers.
use Rattle.std.specs.Prelude.{List, ℕ, codes}
use Rattle.std.specs.declared.result.Result.{Result}
use Rattle.std.specs.declared.result.Result.TheVariants.{Ok, Err}
use Rattle.refusals.specs.declared.Refusal.{Refusal}
use Rattle.refusals.specs.declared.Refusal.TheVariants.{Scheme, Frame, Version, Fields, KeyRecord, Kid, Length, Size, Entries, EmptyEntry, Sum, Remainder, Record, Past, Output, Early, Room, Count, UsedUp, Start, NotValid, NoRecord, SetBack, VolumeRoom, Term}

abbrev pub refusal_number : Refusal → ℕ
refusal_number Scheme = 1
refusal_number Frame = 2
refusal_number Version = 3
refusal_number Fields = 4
refusal_number KeyRecord = 5
refusal_number Kid = 6
refusal_number Length = 7
refusal_number Size = 8
refusal_number Entries = 9
refusal_number EmptyEntry = 10
refusal_number Sum = 11
refusal_number Remainder = 12
refusal_number Record = 13
refusal_number Past = 14
refusal_number Output = 15
refusal_number Early = 16
refusal_number Room = 17
refusal_number Count = 19
refusal_number UsedUp = 20
refusal_number Start = 31
refusal_number NotValid = 50
refusal_number NoRecord = 51
refusal_number SetBack = 52
refusal_number VolumeRoom = 53
refusal_number Term = 54

-- When it is given, in words: those of refusals.txt.
abbrev pub refusal_words : Refusal → List ℕ
refusal_words Scheme = codes "the scheme code isn't four bytes naming one of the four"
refusal_words Frame = codes "the box has under 32 bytes, or its size field isn't its length, or its type isn't tenc"
refusal_words Version = codes "version above 1, flags or zero byte not zero, or a pattern in version 0"
refusal_words Fields = codes "the fields aren't allowed, or the box is longer or shorter than they call for"
refusal_words KeyRecord = codes "key record not 32 bytes (KID, then key)"
refusal_words Kid = codes "the key record's KID isn't the track's"
refusal_words Length = codes "sample over 16,777,216 bytes"
refusal_words Size = codes "auxiliary data of the wrong size, or an entry count of 0"
refusal_words Entries = codes "more than 64 entries"
refusal_words EmptyEntry = codes "an entry 0 and 0 in a sample that isn't empty"
refusal_words Sum = codes "the entries' lengths don't add up to the sample's"
refusal_words Remainder = codes "cbc1 entry whose protected length isn't a multiple of 16"
refusal_words Record = codes "stream record breaks its rules"
refusal_words Past = codes "piece runs past the declared length"
refusal_words Output = codes "output shorter than the bytes due"
refusal_words Early = codes "end asked for too early"
refusal_words Room = codes "output too short for the box being written"
refusal_words Count = codes "the block count of a grant is below 1 or above 1,048,576"
refusal_words UsedUp = codes "the grant's counter, or in size 16 its last block's, would pass the largest 64-bit number, or the issuer is used up"
refusal_words Start = codes "the start of an issuer has neither 8 nor 16 bytes"
refusal_words NotValid = codes "the volume isn't valid"
refusal_words NoRecord = codes "the volume has no such record"
refusal_words SetBack = codes "today is before the volume's latest day"
refusal_words VolumeRoom = codes "the output is shorter than the volume being written"
refusal_words Term = codes "the record's day stored plus its term, as a plain sum, is above today"

-- What a call answers, as a number: 0, done, or that of the refusal.
abbrev pub answer_of : {A : Type 0} → Result A Refusal → ℕ
answer_of (Ok x) = 0
answer_of (Err r) = refusal_number r
