use Rattle.std.specs.Prelude.{ℕ, suc, ◌+◌, ◌≡◌, Bool, true, false, List, [], ◌∷◌, ◌++◌, length, drop, get_or, Option, Some, None}
use Rattle.bio_core.specs.declared.fate.Why.{Why}
use Rattle.block_path.specs.Acts.{Act}
use Rattle.block_path.specs.Blocks.{ActAnswer, silent}
use Rattle.block_path.specs.Moves.{carry_in, carry_out, make_tuple, map_back, map_out, settle}
use Rattle.run_laws.specs.Passed.{act_of, Block, Setting, route, Alters, Reads, Seals, Sets, Shows, Step, Writes, WritesPi}
use Rattle.run_laws.specs.Records.{put_sent, sents}
use Rattle.run_laws.specs.ScriptMoves.{lands_in}

-- How far each block of a script is, and which of its moves are done by then.

-- A block waits, is admitted with its op, is cut into a piece, is carried, and then it is known what was found of it, and is settled, and then it is known with what it is listed.
-- What is no block of a request is done at once, and then it is known what it shows.
pub data Status : Type 0 where
  Waits : Status
  Admitted : Status
  Cut : Status
  Carried : (fate : Option Why) → Status
  Settled : (why : Option Why) → Status
  Done : (shown : List ℕ) → Status

-- A step's moves by what does them: the admission of its op, its cut, the sending that carries it, and its completion.
pub record StepParts : Type 0 where
  pub made : List (Act ActAnswer)
  pub cut : List (Act ActAnswer)
  pub carrying : Act ActAnswer
  pub settled : List (Act ActAnswer)

abbrev pub moves_in : StepParts → List (Act ActAnswer)
moves_in p = p.made ++ (p.cut ++ (p.carrying ∷ p.settled))

-- done at once
abbrev pub whole_part : Act ActAnswer → StepParts
whole_part a = record { made = []; cut = []; carrying = a; settled = [] }

abbrev pub write_parts : Setting → Block → (app : ℕ) → (body own : List ℕ) → (dix : Bool) → StepParts
write_parts m b app body own true = record {
  made = make_tuple (route m b) app body own ∷ [];
  cut = map_out (route m b) own ∷ [];
  carrying = carry_out m.site (route m b) (body ++ own);
  settled = map_back (route m b) own ∷ [];
}
write_parts m b app body own false = whole_part (carry_out m.site (route m b) body)

-- the parts of a step, with the cells of its block's own tuple, and the cell of what is found
abbrev pub parts_of : Setting → (own : List ℕ) → (fate : ℕ) → Step → StepParts
parts_of m own fate (Sets at values) = whole_part (act_of m (Sets at values))
parts_of m own fate (Shows at) = whole_part (act_of m (Shows at))
parts_of m own fate (Seals body tuple app rtag) = whole_part (act_of m (Seals body tuple app rtag))
parts_of m own fate (Writes b app body) = write_parts m b app body own m.mode.dix
parts_of m own fate (WritesPi b frame) = record {
  made = [];
  cut = map_out (route m b) (drop m.size frame) ∷ [];
  carrying = carry_out m.site (route m b) frame;
  settled = map_back (route m b) (drop m.size frame) ∷ [];
}
parts_of m own fate (Reads b owner to) = record {
  made = [];
  cut = [];
  carrying = carry_in m.site (route m b) (lands_in owner m.mode.dix to own) fate;
  settled = settle (route m b) owner (lands_in owner m.mode.dix to own) fate ∷ [];
}
parts_of m own fate (Alters dev lba change) = whole_part (act_of m (Alters dev lba change))

-- how many moves come before the one that carries
abbrev pub before_carrying : StepParts → ℕ
before_carrying p = length p.made + length p.cut

-- how many are done
abbrev pub done_by : StepParts → Status → ℕ
done_by p Waits = 0
done_by p Admitted = length p.made
done_by p Cut = before_carrying p
done_by p (Carried fate) = suc (before_carrying p)
done_by p (Settled why) = suc (before_carrying p + length p.settled)
done_by p (Done shown) = suc (before_carrying p + length p.settled)

-- what is known of a block, by what its carrying answered, and by what all its moves say together
abbrev pub Tells : Status → (carried joined : ActAnswer) → Type 0
Tells Waits carried joined = Unit {0}
Tells Admitted carried joined = Unit {0}
Tells Cut carried joined = Unit {0}
Tells (Carried fate) carried joined = carried.why ≡ fate
Tells (Settled why) carried joined = joined.why ≡ why
Tells (Done shown) carried joined = joined.shown ≡ shown

-- So many moves have answered, only the one that carries put something on record, and what is known is so.
pub record SlotStands (p : StepParts) (join : List ActAnswer → ActAnswer) (status : Status) (answers : List ActAnswer) : Type 0 where
  pub count : length answers ≡ done_by p status
  pub sent : sents answers ≡ put_sent (get_or answers (before_carrying p) silent).sent []
  pub tells : Tells status (get_or answers (before_carrying p) silent) (join answers)

-- the answers of the moves that are done, and nothing of the others
abbrev pub so_far : List (Act ActAnswer) → List ActAnswer → List (Option ActAnswer)
so_far [] answers = []
so_far (a ∷ moves) [] = None ∷ so_far moves []
so_far (a ∷ moves) (r ∷ answers) = Some r ∷ so_far moves answers
