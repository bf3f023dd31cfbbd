use Rattle.avalon_top.proofs.process.status_of_words.Goals as goal

pub returns : goal.returns
returns g c =
    record {
      answer = c.answer-exit.result;
      had = record {
        files = c.answer-exit.new.files;
        output = c.answer-exit.new.output;
        answers = rw c.behind_name-words.ensures at c.answer-exit.ensures.answers;
        line = c.answer-exit.ensures.line;
      };
      status_is = c.code_of.ensures;
    }
