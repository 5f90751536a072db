-- A run that read its input and has its answer is done where it wrote it, and else stopped as a fault of writing.
use Rattle.std.proofs.Common.{◌≡◌, ℕ, ◌<◌, ◌≤◌, ◌⊎◌, ◌++◌, List, length, Ok, refl, sym, ap, subst, ◌∙◌}
use Rattle.std.specs.Option.{option_map, IfSome, IsSomeAnd}
use Rattle.opt_outside.specs.Seen.{Seen, Rises, MayAsk, MayOpen, opened_now, with_name}
use Rattle.opt_top.specs.Answer.{IsAnswer}
use Rattle.opt_top.specs.Ends.{EndsAtWriting, EndsDone}
use Rattle.opt_top.specs.Job.{FileJob}
use Rattle.opt_top.specs.Means.{Means}
use Rattle.opt_top.specs.Moves.{ReadsInput, FaultsOutput, WritesOutput}

pub stops_at_writing : (job : FileJob) (bytes output : List ℕ) (old mid new : Seen) → ReadsInput job.input bytes old mid → length bytes ≤ 4194304 → IsAnswer bytes (Ok output) →
    FaultsOutput job.output output mid new → EndsAtWriting job old new
stops_at_writing job bytes output old mid new reads short answer faults = record {
  bytes = bytes;
  output = output;
  input = record {
    front = subst (λ (s : Seen). IfSome (old.holds job.input) (λ all. IsSomeAnd s.left (λ rest. bytes ++ rest ≡ all))) (sym faults.others) reads.front;
    most = reads.most;
    whole = reads.whole;
  };
  others = subst (λ (s : Seen). s ≡ record old { left = s.left; written = s.written; opened = s.opened; told = s.told; asked = s.asked; write_faults = s.write_faults; tell_faults = s.tell_faults })
      (sym (faults.others ∙ ap {A = Seen} (λ s. record s { written = new.written; opened = new.opened; asked = new.asked; write_faults = new.write_faults }) reads.others)) refl;
  short = short;
  answer = answer;
  names = subst (λ (s : Seen). MayAsk job.output s.asked new.asked) reads.others faults.names;
  opening = subst (λ (s : Seen). MayOpen s.opened new.opened) reads.others faults.opening;
  front = subst (λ (s : Seen). (new.written ≡ s.written) ⊎ ((front : List ℕ) × (rest : List ℕ) × (front ++ rest ≡ output) × (0 < length rest) × (new.written ≡ option_map (λ _. front) s.written))) reads.others faults.front;
  cause = subst (λ (s : Seen). Rises s.write_faults new.write_faults) reads.others faults.cause;
}

pub stops_done : (job : FileJob) (bytes output : List ℕ) (old mid new : Seen) → ReadsInput job.input bytes old mid → length bytes ≤ 4194304 →
    IsAnswer bytes (Ok output) → Means bytes output → WritesOutput job.output output mid new → EndsDone job old new
stops_done job bytes output old mid new reads short answer means writes = record {
  bytes = bytes;
  output = output;
  input = record {
    front = subst (λ (s : Seen). IfSome (old.holds job.input) (λ all. IsSomeAnd s.left (λ rest. bytes ++ rest ≡ all))) (sym writes.others) reads.front;
    most = reads.most;
    whole = reads.whole;
  };
  others = subst (λ (s : Seen). s ≡ done s) (sym (writes.others ∙ ap {A = Seen} wrote reads.others)) refl;
  short = short;
  answer = answer;
  means = means;
}
  where
    -- what a run that is done leaves, but for what is left and told; and what writing leaves
    done : Seen → Seen
    done s = record old {
      left = s.left;
      written = option_map (λ _. output) old.written;
      opened = opened_now old.opened;
      told = s.told;
      asked = with_name job.output (with_name job.input old.asked);
      tell_faults = s.tell_faults;
    }

    wrote : Seen → Seen
    wrote s = record s { written = option_map (λ _. output) s.written; opened = opened_now s.opened; asked = with_name job.output s.asked }
