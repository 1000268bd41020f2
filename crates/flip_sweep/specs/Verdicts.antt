-- What a flip comes to beside the run as it is.
use Rattle.std.specs.Prelude.{ℕ, ◌+◌, Bool, true, false, ◌&&◌, eqb, if◌then◌else◌, List, [], ◌∷◌, Option, Some, None, unwrap_or}
use Rattle.std.specs.List.{list_any}
use Rattle.std.specs.Str.{bytes_eq}
use Rattle.bio_core.specs.declared.fate.Why.{Why}
use Rattle.bio_core.specs.declared.fate.Why.TheVariants as why
use Rattle.pi_tuple.specs.declared.checks.Check.{Check}
use Rattle.pi_tuple.specs.declared.checks.Check.TheVariants.{Guard, AppTag, RefTag}
use Rattle.pi_tuple.specs.declared.checks.PiType.{PiType}
use Rattle.image_text.specs.Passed.{stored_finding}
use Rattle.stack_ops.specs.declared.reply.BadBlock.{BadBlock}
use Rattle.stack_ops.specs.declared.reply.Reply.{Reply}
use Rattle.stack_ops.specs.declared.reply.Reply.TheVariants as reply
use Rattle.rig_api.specs.Image.{units_from}
use Rattle.rig_api.specs.Target.{Stored}
use Rattle.rig_api.specs.declared.units.UnitSpec.{UnitSpec}
use Rattle.flip_sweep.specs.Comes.{CameTo}
use Rattle.flip_sweep.specs.declared.verdict.Verdict.{Verdict}
use Rattle.flip_sweep.specs.declared.verdict.Verdict.TheVariants.{Found, Scrub, Same, Unseen}

-- ---- what is the same

abbrev pub is_same_check : Check → Check → Bool
is_same_check Guard Guard = true
is_same_check AppTag AppTag = true
is_same_check RefTag RefTag = true
is_same_check _ _ = false

abbrev pub is_same_why : Why → Why → Bool
is_same_why (why.Adapter a) (why.Adapter b) = is_same_check a b
is_same_why (why.Target a) (why.Target b) = is_same_check a b
is_same_why (why.Block a) (why.Block b) = is_same_check a b
is_same_why (why.App a) (why.App b) = is_same_check a b
is_same_why why.Medium why.Medium = true
is_same_why (why.Refused key asc ascq) (why.Refused key' asc' ascq') = eqb key key' && (eqb asc asc' && eqb ascq ascq')
is_same_why why.Short why.Short = true
is_same_why _ _ = false

abbrev pub is_same_block : BadBlock → BadBlock → Bool
is_same_block a b = eqb a.k b.k && is_same_why a.why b.why

abbrev pub are_same_blocks : List BadBlock → List BadBlock → Bool
are_same_blocks [] [] = true
are_same_blocks (x ∷ xs) (y ∷ ys) = is_same_block x y && are_same_blocks xs ys
are_same_blocks _ _ = false

abbrev pub is_same_reply : Reply → Reply → Bool
is_same_reply reply.Silent reply.Silent = true
is_same_reply reply.Whole reply.Whole = true
is_same_reply (reply.Bad a) (reply.Bad b) = are_same_blocks a b
is_same_reply (reply.Shown a) (reply.Shown b) = bytes_eq a b
is_same_reply reply.Medium reply.Medium = true
is_same_reply _ _ = false

abbrev pub are_same_replies : List Reply → List Reply → Bool
are_same_replies [] [] = true
are_same_replies (x ∷ xs) (y ∷ ys) = is_same_reply x y && are_same_replies xs ys
are_same_replies _ _ = false

-- Replies, pages and stored blocks are the same.
abbrev pub is_same : CameTo → CameTo → Bool
is_same a b = are_same_replies a.replies b.replies && (bytes_eq a.pages b.pages && bytes_eq a.stored b.stored)

abbrev pub is_same_verdict : Verdict → Verdict → Bool
is_same_verdict (Found op k w) (Found op' k' w') = eqb op op' && (eqb k k' && is_same_why w w')
is_same_verdict (Scrub dev lba c) (Scrub dev' lba' c') = eqb dev dev' && (eqb lba lba' && is_same_check c c')
is_same_verdict Same Same = true
is_same_verdict Unseen Unseen = true
is_same_verdict _ _ = false

-- ---- who finds it

abbrev pub or_else : Option Verdict → Option Verdict → Option Verdict
or_else None rest = rest
or_else (Some v) rest = Some v

-- the blocks that a reply lists
abbrev pub listed : Reply → List BadBlock
listed reply.Silent = []
listed reply.Whole = []
listed (reply.Bad blocks) = blocks
listed (reply.Shown bytes) = []
listed reply.Medium = []

-- the first block that isn't among the others
abbrev pub first_other : (was now : List BadBlock) → Option BadBlock
first_other was [] = None
first_other was (b ∷ bs) = if list_any (is_same_block b) was then first_other was bs else Some b

abbrev pub found_of : (op : ℕ) → Option BadBlock → Option Verdict
found_of op None = None
found_of op (Some b) = Some (Found op b.k b.why)

-- the first block that the report lists, by these replies of ops from this number on, and that isn't listed so by the others
abbrev pub first_found : (op : ℕ) → (was now : List Reply) → Option Verdict
first_found op (w ∷ was) (n ∷ now) = or_else (found_of op (first_other (listed w) (listed n))) (first_found (op + 1) was now)
first_found op _ _ = None

abbrev pub unless : Option Check → Option Check → Option Check
unless None now = now
unless (Some c) now = None

-- what a check finds of a stored block, where it found nothing of it otherwise
abbrev pub new_finding : PiType → (size lba : ℕ) → (was now : List ℕ) → Option Check
new_finding ty size lba was now = unless (stored_finding ty size lba was) (stored_finding ty size lba now)

abbrev pub spoilt_of : (dev lba : ℕ) → Option Check → Option Verdict
spoilt_of dev lba None = None
spoilt_of dev lba (Some check) = Some (Scrub dev lba check)

-- the first block at fault that isn't so otherwise, among the stored blocks from this address on
abbrev pub first_spoilt_from : PiType → (size dev lba : ℕ) → (was now : List (List ℕ)) → Option Verdict
first_spoilt_from ty size dev lba (w ∷ was) (n ∷ now) = or_else (spoilt_of dev lba (new_finding ty size lba w n)) (first_spoilt_from ty size dev (lba + 1) was now)
first_spoilt_from ty size dev lba _ _ = None

-- and among those of units, the first of which has this number
abbrev pub first_spoilt : (dev : ℕ) → (was now : List Stored) → Option Verdict
first_spoilt dev (w ∷ was) (n ∷ now) = or_else (first_spoilt_from n.ty n.size dev n.first w.blocks n.blocks) (first_spoilt (dev + 1) was now)
first_spoilt dev _ _ = None

-- ---- the verdict

-- What a run over these units comes to, beside the run as it is: the first block that its report lists and the other doesn't list so;
-- else the first stored block that it leaves at fault and the other doesn't; else the same; else what nobody sees.
abbrev pub verdict_of : List UnitSpec → (was now : CameTo) → Verdict
verdict_of us was now =
    unwrap_or (first_found 1 was.replies now.replies)
    (unwrap_or (first_spoilt 0 (units_from us was.stored) (units_from us now.stored))
    (if is_same was now then Same else Unseen))
