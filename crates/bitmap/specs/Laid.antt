-- What the functions that lay black pels and columns on a page promise to one another. Assumes nothing.
use Rattle.std.specs.Prelude.{◌≡◌, List, ◌++◌, ℕ, ◌+◌, ◌*◌, ◌<◌, ◌≤◌, length}
use Rattle.basics.specs.Octets.{Octets}
use Rattle.octets.specs.Bits.{bit_num}
use Rattle.state.specs.declared.State.{State}
use Rattle.position.specs.Position.{pels_per_line}
use Rattle.bitmap.specs.Form.{bitmap_of}
use Rattle.bitmap.specs.Validity.{most_lines}

-- p is o with the bits a up to b set
pub record Blacked (a b : ℕ) (o p : List ℕ) : Type 0 where
  pub size : length p ≡ length o
  pub octets : Octets o → Octets p
  pub black : (t : ℕ) → a ≤ t → t < b → bit_num p t ≡ 1
  pub kept : (t : ℕ) → (a ≤ t → t < b → ⊥) → bit_num p t ≡ bit_num o t

-- the same where the pel is black, and nothing where it is white
pub record SetIfBlack (pel a b : ℕ) (o p : List ℕ) : Type 0 where
  pub black : pel ≡ 1 → Blacked a b o p
  pub white : pel ≡ 0 → p ≡ o

-- o is a page on which `at` columns are laid, with room for n more
pub record Room (at n : ℕ) (o : List ℕ) : Type 0 where
  pub pairs : ℕ
  pub few : 2 * pairs ≤ most_lines
  pub room : at + n ≤ pels_per_line * pairs
  pub columns : List State
  pub count : length columns ≡ at
  pub page : o ≡ bitmap_of pairs columns

-- p is the page o with more columns laid behind the `at` columns there
pub record Laid (at : ℕ) (more : List State) (o p : List ℕ) : Type 0 where
  pub laid : (pairs : ℕ) (cs : List State) → 2 * pairs ≤ most_lines → length cs ≡ at → o ≡ bitmap_of pairs cs → p ≡ bitmap_of pairs (cs ++ more)
