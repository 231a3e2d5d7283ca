-- The sink in memory: its calls and what they answer.
use Rattle.std.specs.Prelude.{◌≡◌, ◌==◌, ◌||◌, ◌&&◌, ℕ, ◌-◌, min, List, ◌++◌, take, length, Bool, true, false, nat_lt, nat_le, Some, Result, Ok, Err}
use Rattle.std.specs.List.{list_any}
use Rattle.lv_io.specs.Causes.{risen}
use Rattle.lv_io.specs.Outside.{SinkState}
use Rattle.lv_io.specs.declared.mem_sink.MemSink.{MemSink}
use Rattle.lv_io.specs.declared.sink.Failed.{Failed}

abbrev pub given_to : MemSink → List ℕ
given_to sink = sink.bytes.items

-- how many bytes the sink can be given
abbrev pub room_of : MemSink → ℕ
room_of sink = sink.room

-- how many bytes a call takes at most
abbrev pub most_of : MemSink → ℕ
most_of sink = sink.most

-- the numbers of the calls that are to fail
abbrev pub fails_of : MemSink → List ℕ
fails_of sink = sink.fails.items

-- the number of the next call
abbrev pub calls_of : MemSink → ℕ
calls_of sink = sink.calls

abbrev pub faults_of : MemSink → ℕ
faults_of sink = sink.faults

abbrev pub state_of : MemSink → SinkState
state_of sink = record { given = Some (given_to sink); faults = faults_of sink }

-- the next call is to fail
abbrev pub is_listed : MemSink → Bool
is_listed sink = list_any (λ call. call == calls_of sink) (fails_of sink)

-- a piece that isn't empty finds the room full
abbrev pub finds_no_room : MemSink → List ℕ → Bool
finds_no_room sink piece = nat_lt 0 (length piece) && nat_le (room_of sink) (length (given_to sink))

-- the call is to fail, or a piece that isn't empty finds the room full
abbrev pub fails_at : MemSink → List ℕ → Bool
fails_at sink piece = is_listed sink || finds_no_room sink piece

-- how many bytes of the piece a call takes that doesn't fail
abbrev pub count_taken : MemSink → List ℕ → ℕ
count_taken sink piece = min (most_of sink) (min (room_of sink - length (given_to sink)) (length piece))

-- what a call does, by whether it fails
pub record IsRefused (before now : MemSink) (result : Result ℕ Failed) : Type 0 where
  pub is_failed : (e : Failed) × (result ≡ Err e)
  pub given : given_to now ≡ given_to before
  pub faults : faults_of now ≡ risen (faults_of before)

pub record Takes (before now : MemSink) (piece : List ℕ) (result : Result ℕ Failed) : Type 0 where
  pub count : result ≡ Ok (count_taken before piece)
  pub given : given_to now ≡ given_to before ++ take (count_taken before piece) piece
  pub faults : faults_of now ≡ faults_of before

abbrev pub WritesBy : Bool → MemSink → MemSink → List ℕ → Result ℕ Failed → Type 0
WritesBy true before now piece result = IsRefused before now result
WritesBy false before now piece result = Takes before now piece result

-- one call later, with the same room, the same bound and the same calls that are to fail
pub record CountsCall (before now : MemSink) : Type 0 where
  pub room : room_of now ≡ room_of before
  pub most : most_of now ≡ most_of before
  pub fails : fails_of now ≡ fails_of before
  pub calls : calls_of now ≡ risen (calls_of before)
