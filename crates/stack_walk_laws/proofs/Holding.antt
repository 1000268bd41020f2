-- A group that the adapter holds back.
use Rattle.std.proofs.Common.{◌≡◌, ℕ, suc, List, [], ◌∷◌, length, map, sym, ap, subst, ◌∙◌}
use Rattle.page_pool.specs.Cells.{flat}
use Rattle.bio_core.specs.Bios.{Block}
use Rattle.bio_core.specs.declared.bio.Bio.{Bio}
use Rattle.bio_core.specs.declared.fate.Fate.{Fate}
use Rattle.bio_core.specs.declared.request.Dir.TheVariants.{Write}
use Rattle.bio_core.specs.declared.request.Io.{Io}
use Rattle.block_path.specs.Acts.{State}
use Rattle.block_path.specs.Blocks.{Sent}
use Rattle.run_laws.specs.Passed.{Setting, Op}
use Rattle.dix_adapter.specs.declared.adapter.Adapter.{Adapter}
use Rattle.dix_adapter.specs.Carried.{Unsent, sends, unsent}
use Rattle.dix_adapter.specs.Groups.{IsCarriedGroup, blocks_in, first_of}
use Rattle.stack_walk_laws.proofs.Puts.{InTurn, bios_turn}
use Rattle.stack_walk_laws.specs.Following.{Follows}
use Rattle.stack_walk_laws.specs.Gate.{BlockSpot}
use Rattle.stack_walk_laws.specs.Sending.{AllGoing, HeldBack, with_fates}
use Rattle.stack_walk_laws.specs.Slots.{Status}
use Rattle.stack_walk_laws.proofs.Sends.{AllWrites, held_all}

pub held_back : (m : Setting) (n : ℕ) (ops : List Op) (a : Adapter) (ios : List Io) (req : List Bio) (pool pool' : List (List ℕ)) (fates : List Fate) (opening now : State) (status : ℕ → ℕ → Status) (es : List Sent) (spots : List BlockSpot) →
    IsCarriedGroup a pool m.size ios req → (first_of req).dir ≡ Write → m.site.faults ≡ a.tamper → Unsent a ios req pool pool' fates → AllGoing m n ops a ios (length opening.logs) status (blocks_in req) spots → now.bytes ≡ flat pool →
    Follows m n ops opening status now es → HeldBack m n ops opening now status (with_fates (blocks_in req) fates status) es
held_back m n ops a ios req pool pool' fates opening now status es spots g w faults u going pages h =
    let first = first_of req in
    let turns = subst (λ d. InTurn d first.dev first.lba (blocks_in req)) w (bios_turn a pool m.size ios first.dev first.dir first.lba req g.bios g.chain) in
    let held = held_all m n ops a ios opening faults (blocks_in req) spots now status es going (writes (blocks_in req) first.dev first.lba turns) h in
    subst (λ f. HeldBack m n ops opening now status (with_fates (blocks_in req) f status) es) (ap (λ cells. map unsent (map (sends a ios cells) (blocks_in req))) pages ∙ sym u.fates_are) held
  where
    writes : (bs : List Block) (dev lba : ℕ) → InTurn Write dev lba bs → AllWrites m n ops a ios opening faults bs
    writes [] dev lba t = tt
    writes (b ∷ bs) dev lba t = (t.0.0, writes bs dev (suc lba) t.1)
