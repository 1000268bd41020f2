use Rattle.std.specs.Prelude.{ℕ, ◌≡◌, ◌*◌, suc, true, false, List, [], ◌∷◌, ◌++◌, ◌⊎◌, length, get_or, map, Option, Some, None}
use Rattle.page_pool.specs.declared.segs.Seg.{Seg}
use Rattle.page_pool.specs.Cells.{gather}
use Rattle.page_pool.specs.Places.{total}
use Rattle.range_gate.specs.Cells.{cells_of}
use Rattle.integrity_payload.specs.declared.payload.Owner.{Owner}
use Rattle.integrity_payload.specs.declared.payload.Owner.TheVariants.{Block as OfBlock, App as OfApp}
use Rattle.walk_laws.specs.Passed.{Op, Reply, Silent, data_of, tuple_of, State, act, tell, AreCells, plain_tells, Why, TheVariantsMedium as Medium}
use Rattle.walk_laws.specs.FirstLayer.{last_accepted}
use Rattle.walk_laws.specs.Past.{Brought, steps_from}
use Rattle.walk_laws.specs.PlainMap.{all_pass}
use Rattle.walk_laws.specs.ScriptWalk.{reply_of}
use Rattle.walk_laws.specs.Settings.{Block, Setting, block_of}
use Rattle.walk_laws.specs.Steps.{steps_of}
use Rattle.walk_laws.specs.ReadsAs.{landing, listed_in, read_op, takes_tuples}
use Rattle.run_laws.specs.StoreFaults.{falling_past, falling_walk, is_lost, may_fall}
use Rattle.pi_tuple.specs.declared.TheConstants.{TUPLE}

-- What comes of a read op where store calls fail, in its reply and in the pages.

-- the replies of the ops from op i on
abbrev pub falling_replies : Setting → (falls : Block → Option (List ℕ)) → (i : ℕ) → List Op → State → List Reply
falling_replies m falls i [] s = []
falling_replies m falls i (op ∷ ops) s =
    reply_of (m.fails i) op (plain_tells act tell (map (may_fall m falls) (steps_of m i op)) s) ∷ falling_replies m falls (suc i) ops (falling_walk m falls (steps_of m i op) s)

-- Each of n blocks of a read has cells of its own in so many bytes of pages, and an application has tuples in memory.
abbrev pub HasRoom : Setting → (bytes : ℕ) → Owner → (n : ℕ) → (body tuples : List Seg) → Type 0
HasRoom m bytes OfBlock n body tuples = (total body ≡ n * m.size) × AreCells bytes (cells_of body)
HasRoom m bytes OfApp n body tuples = (total body ≡ n * m.size) × ((total tuples ≡ n * TUPLE) × (AreCells bytes (cells_of body ++ cells_of tuples) × (m.mode.dix ≡ true)))

-- The block isn't listed, and these data landed; an application gets this application tag too, where tuples pass all the way.
pub record IsReadAs (m : Setting) (owner : Owner) (e : Brought) (listed : Option Why) (landed : List ℕ) : Type 0 where
  pub is_listed : listed ≡ None
  pub body : data_of m.size landed ≡ e.body
  pub app : takes_tuples owner ≡ true → all_pass m ≡ true → (tuple_of m.size landed).app ≡ e.app

-- Block k of the op that follows `before`, a read: unless it is lost, it is listed for the medium, or the last accepted write landed.
abbrev pub IsReadOrFails : Setting → (falls : Block → Option (List ℕ)) → (before : List Op) → Owner → (v n : ℕ) → (body tuples : List Seg) → (after : List Op) → State → (k : ℕ) → Type 0
IsReadOrFails m falls before owner v n body tuples after opening k =
    let b = block_of (suc (length before)) v k in
    let op = read_op owner v n body tuples in
    let past = falling_past m falls (steps_from m 1 before) opening [] in
    let listed = listed_in (get_or (falling_replies m falls 1 (before ++ (op ∷ after)) opening) (length before) Silent) k in
    let pages = (falling_walk m falls (steps_from m 1 (before ++ (op ∷ []))) opening).bytes in
    is_lost b past ≡ false → (listed ≡ Some Medium) ⊎ IsReadAs m owner (last_accepted m opening b past) listed (gather 0 (landing m.size owner body tuples k) pages)
