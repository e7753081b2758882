-- What a call answers, in the scope paper's terms: values, or a refusal by a number of the list, at a record, with a bit. A call returns a `Result`,
-- whose reply is defined here, and the promises are equations of replies. Assumes nothing.
use Rattle.std.specs.Prelude.{cond, Result, Ok, Err, List, ℕ, ◌^◌, ◌<◌, leb, length}
use Rattle.basics.specs.Placed.{at_front}
use Rattle.refusal.specs.declared.Refusal.{Refusal}
use Rattle.refusal.specs.declared.Reason.{Reason}
use Rattle.refusal.specs.Number.{number_of}
use Rattle.refusal.specs.Fault.{GoesWith}

pub data Reply (B : Type 0) : Type 0 where
  -- accepted, with these values
  gives : B → Reply B
  -- refused by this number, at this record, with this bit
  refuses_at : ℕ → ℕ → ℕ → Reply B

-- refused by a number that no bit goes with: any but 11
abbrev pub refuses : {B : Type 0} → ℕ → ℕ → Reply B
refuses n k = refuses_at n k 0

-- a refusal as a reply
abbrev pub refuses_by : {B : Type 0} → Refusal → Reply B
refuses_by f = refuses_at (number_of f.reason) f.«record» f.bit

-- what judging an input comes to where nothing is wrong with it
abbrev pub valid : Result Unit Reason
valid = Ok tt

-- what a call returns, as a reply
abbrev pub reply_of : {B : Type 0} → Result B Refusal → Reply B
reply_of (Ok v) = gives v
reply_of (Err refusal) = refuses_by refusal

-- the same of a call that says the reason alone: it refuses at record 0, by no reason that a bit goes with
abbrev pub reply_at_once : {B : Type 0} → Result B Reason → Reply B
reply_at_once (Ok v) = gives v
reply_at_once (Err reason) = refuses (number_of reason) 0

-- a refusal's bit goes with its number
abbrev pub BitFits : {B : Type 0} → Reply B → Type 0
BitFits (gives v) = Unit {0}
BitFits (refuses_at n k b) = GoesWith b n

-- a refusal's record is below 2^40 and its bit below 512, so that the number that C gets holds both
abbrev pub SmallPlace : {B : Type 0} → Reply B → Type 0
SmallPlace (gives v) = Unit {0}
SmallPlace (refuses_at n k b) = (k < 2 ^ 40) × (b < 512)

-- a reply, and what the lent output holds then
abbrev pub Outcome : Type 0 → Type 0 → Type 0
Outcome B A = Reply B × List A

-- xs at the front of the output, where there is room for them; else 16 at record k, and the output as it was
unfoldable pub delivered : {B A : Type 0} → B → ℕ → List A → List A → Outcome B A
delivered v k xs o = cond (leb (length xs) (length o)) (gives v, at_front xs o) (refuses 16 k, o)

-- an outcome, if the input is valid; else its number at record 0, and the output as it was
abbrev pub if_valid : {B A : Type 0} → Result Unit Reason → Outcome B A → List A → Outcome B A
if_valid (Ok _) x o = x
if_valid (Err reason) x o = (refuses (number_of reason) 0, o)
